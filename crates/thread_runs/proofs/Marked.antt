-- The log at the end of a run on threads has the records that the trace says.
use Rattle.std.proofs.Common.{◌≡◌, ◌⊎◌, ◌≤◌, ℕ, ◌==◌, nat_le, Bool, true, false, ◌&&◌, List, [], ◌∷◌, filter, length, Option, Some, arith, inl, inr, refl, ap, sym, subst, ◌∙◌, if◌then◌else◌}
use Rattle.std.specs.Prelude.{IsTrue, is_some}
use Rattle.std.proofs.lemmas.Bool.{cases_Bool}
use Rattle.std.proofs.lemmas.Bool.Decides.{eqb_tells}
use Rattle.dtx_values.specs.declared.tx_id.TxId.{TxId}
use Rattle.dtx_values.specs.declared.entry.Entry.{Entry}
use Rattle.dtx_values.specs.TxIds.{number_of}
use Rattle.dtx_values.specs.declared.number.TxNo.{TxNo}
use Rattle.dtx_values.specs.declared.script.Line.{Line}
use Rattle.dtx_values.specs.Table.{how_many}
use Rattle.dtx_model.specs.AtLog.{follows, is_opened, is_restart, is_up_by}
use Rattle.dtx_model.specs.Caused.{is_begin_sent}
use Rattle.dtx_model.specs.Log.{CommitRecord, first_of, is_record_of}
use Rattle.dtx_model.specs.Promotes.{identifier_of}
use Rattle.dtx_model.specs.Tied.{has_mark, is_stop}
use Rattle.dtx_model.specs.Wires.{is_stopped}
use Rattle.dtx_model.specs.Words.{each, has}
use Rattle.dtx_model.specs.World.{core}
use Rattle.dtx_model.proofs.Bools.{and_left, and_right, not_both}
use Rattle.history_table.proofs.CoreStages.{recorded_mark, stopped_same}
use Rattle.coordinator_log.specs.Slots.{open_records}
use Rattle.tx_world.specs.AtLog.{AtMostOne, id_of}
use Rattle.tx_world.proofs.Begun.{stopped_begun}
use Rattle.world_parts.proofs.Fitting.{one_found}
use Rattle.tx_cells.specs.Board.{transactions_of}
use Rattle.turn_parts.proofs.Records.{one_there}
use Rattle.tx_cells.specs.Cell.{Cell}
use Rattle.tx_cells.specs.LogCell.{AreOwn, LogCell, is_own}
use Rattle.thread_runs.specs.Run.{records_of}
use Rattle.thread_runs.proofs.ByCell.{is_among}
use Rattle.thread_runs.proofs.Standing.{IsDone, Stands}

-- A coordinator that follows a log that is up isn't stopped.
never : (a b : Bool) → (a && b && false) ≡ false
never true true = refl
never true false = refl
never false b = refl

unfollowed : (l h : List Entry) → is_stopped h ≡ true → has is_begin_sent h ≡ true → is_up_by l ≡ true → follows l h ≡ false
unfollowed l h stopped begun up = rw stopped (rw begun (rw up (never (nat_le (how_many is_stop h) (how_many is_stop l)) (nat_le (how_many is_restart h) (how_many is_opened l)))))

not_stopped : (l h : List Entry) → follows l h ≡ true → is_up_by l ≡ true → (is_stopped h ≡ true → has is_begin_sent h ≡ true) → ((is_stopped h ≡ true) ⊎ (is_stopped h ≡ false)) → is_stopped h ≡ false
not_stopped l h f up begun (inl e) = absurd (not_both (follows l h) f (unfollowed l h e (begun e) up))
not_stopped l h f up begun (inr e) = e

runs_there : {D : Type 0} (s : List Line) (k : ℕ) (honest : Bool) (log : LogCell D) (c : Cell) → IsDone s k honest log c → is_up_by log.past ≡ true → (core c.tx.world).stopped ≡ false
runs_there s k honest log c d up =
    let h = c.tx.world.past in
    stopped_same h ∙ not_stopped log.past h d.followed up (λ e. stopped_begun (number_of c.tx.transaction) c.tx.world d.cell.run (stopped_same h ∙ e)) (cases_Bool (is_stopped h))

-- So the log has one record of a cell's transaction exactly where its history has one.
cell_marked : {D : Type 0} (s : List Line) (k : ℕ) (honest : Bool) (log : LogCell D) (c : Cell) → IsDone s k honest log c → is_up_by log.past ≡ true → IsTrue log.log.is_up → AreOwn s (open_records log.log.slots)
    → length (filter (is_record_of (id_of c.tx)) (open_records log.log.slots)) ≡ (if has_mark c.tx.world.past then 1 else 0)
cell_marked s k honest log c d said up own =
    let x = c.tx in
    let rs = open_records log.log.slots in
    let runs = runs_there s k honest log c d said in
    let found : first_of (id_of x) rs ≡ x.ours = one_found (id_of x) x.ours x.unsure rs (d.cell.ours.sure runs) (record { tie = d.tied up; one = own.once (id_of x) }) in
    let marked : is_some x.ours ≡ has_mark x.world.past = d.cell.ours.recorded runs ∙ recorded_mark x.world.past in
    one_there (id_of x) rs (own.once (id_of x)) ∙ ap (λ b. if b then 1 else 0) (ap (λ (o : Option CommitRecord). is_some o) found ∙ marked)

-- And it has none of a transaction that the script doesn't make.
not_own : (t : ℕ) (r : CommitRecord) (ks : List ℕ) → is_among t ks ≡ false → has (λ k. r.id == identifier_of k) ks ≡ true → is_record_of (identifier_of t) r ≡ false
not_own t r [] none own = absurd cc
not_own t r (k ∷ ks) none own = elim (eqb_tells t k) [
  | inl e ↦ absurd (let same = e.0 in cc)
  | inr e ↦ elim (eqb_tells r.id (identifier_of k)) [
    | inl i ↦ elim (eqb_tells r.id (identifier_of t)) [ inl j ↦ let other = e.1 in let one = i.1 in let two = j.1 in absurd (omega (arith, other, one, two)) | inr j ↦ j.0 ]
    | inr i ↦ not_own t r ks (let other = e.0 in cc) (let other = i.0 in cc)
  ]
]

none_own : (s : List Line) (t : ℕ) (rs : List CommitRecord) → is_among t (transactions_of s) ≡ false → each (is_own s) rs ≡ true → filter (is_record_of (identifier_of t)) rs ≡ []
none_own s t [] none own = refl
none_own s t (r ∷ rs) none own =
    rw (not_own t r (transactions_of s) none (and_left (is_own s r) (each (is_own s) rs) own)) (none_own s t rs none (and_right (is_own s r) (each (is_own s) rs) own))

pub marked_there : {D : Type 0} (s : List Line) (k : ℕ) (honest : Bool) (log : LogCell D) (t : TxNo) (h : List Entry) → is_up_by log.past ≡ true → IsTrue log.log.is_up → AreOwn s (open_records log.log.slots) → Stands s k honest log h t
    → length (records_of t.value (open_records log.log.slots)) ≡ (if has_mark h then 1 else 0)
marked_there s k honest log t h said up own (inl f) =
    subst (λ (x : List Entry). length (records_of t.value (open_records log.log.slots)) ≡ (if has_mark x then 1 else 0)) (sym f.3)
    (subst (λ (u : TxId). length (records_of (number_of u) (open_records log.log.slots)) ≡ (if has_mark f.0.tx.world.past then 1 else 0)) f.1 (cell_marked s k honest log f.0 f.2 said up own))
marked_there s k honest log t h said up own (inr f) =
    subst (λ (x : List Entry). length (records_of t.value (open_records log.log.slots)) ≡ (if has_mark x then 1 else 0)) (sym f.1)
    (ap (λ (rs : List CommitRecord). length rs) (none_own s t.value (open_records log.log.slots) f.0 own.own))
