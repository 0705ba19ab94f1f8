-- Each transaction of the trace of a run on threads: it has the history of its cell, or none.
use Rattle.std.proofs.Common.{◌≡◌, ◌⊎◌, ℕ, nat_le, Bool, true, false, List, [], ◌∷◌, arith, inl, inr, refl, ap, sym, subst, ◌∙◌}
use Rattle.std.specs.Prelude.{IsTrue}
use Rattle.std.specs.List.{All}
use Rattle.std.proofs.lemmas.Bool.Decides.{nat_tests}
use Rattle.std.proofs.lemmas.List.Elements.{All-tail}
use Rattle.dtx_values.specs.declared.tx_id.TxId.{TxId}
use Rattle.dtx_values.specs.declared.entry.Entry.{Entry}
use Rattle.dtx_values.specs.TxIds.{first_id, number_of}
use Rattle.dtx_values.specs.declared.number.TxNo.{TxNo}
use Rattle.dtx_values.specs.declared.script.Line.{Line}
use Rattle.dtx_values.specs.Table.{how_many}
use Rattle.dtx_model.specs.AtLog.{at_log, follow_log, follows, follows_log, is_opened, transactions}
use Rattle.dtx_model.specs.Caused.{Caused, IsCallOf, IsIn, Settled}
use Rattle.dtx_model.specs.Outcome.{is_empty}
use Rattle.dtx_model.specs.Acts.{act_entries}
use Rattle.dtx_model.specs.Coordinated.{coordinate, may_free, may_log}
use Rattle.dtx_model.specs.Observed.{observe}
use Rattle.dtx_model.specs.Replies.{all_due}
use Rattle.dtx_model.specs.Steps.{local_pending, pending}
use Rattle.dtx_model.specs.Tied.{is_stop, tied}
use Rattle.dtx_model.specs.Traces.{Placed, history}
use Rattle.dtx_model.specs.Words.{each, has}
use Rattle.dtx_model.proofs.Bools.{and_both, and_left, and_right}
use Rattle.dtx_model.proofs.Lifting.{lift_ran}
use Rattle.dtx_values.proofs.SameNumbers.{same_transaction}
use Rattle.script_histories.proofs.ReplaySame.{pending_same}
use Rattle.script_histories.proofs.ScriptCalls.{ran_calls}
use Rattle.script_calls.specs.FirstCalls.{are_first, par_line}
use Rattle.script_calls.specs.Rows.{are_entered}
use Rattle.tx_cells.specs.Board.{transactions_of}
use Rattle.tx_cells.specs.Cell.{Cell, is_log_full}
use Rattle.tx_cells.specs.LogCell.{LogCell}
use Rattle.tx_cells.proofs.Kept.{of_first}
use Rattle.tx_cells.specs.Ties.{TiesWith}
use Rattle.thread_runs.specs.Gathering.{IsCellOf}
use Rattle.thread_runs.proofs.ByCell.{AllOf, IsFound, is_among, numbers}

-- A cell of a run that ended: all its calls were entered, nothing is pending, it ties with the log and follows it, and the calls of the lines before `par` come first there.
pub record IsDone {D : Type 0} (s : List Line) (k : ℕ) (honest : Bool) (log : LogCell D) (c : Cell) : Type 0 where
  pub entered : are_entered c.rows ≡ true
  pub settled : is_empty (pending c.tx.world) ≡ true
  pub tied : TiesWith c.tx log.log
  pub followed : follows log.past c.tx.world.past ≡ true
  pub first : are_first (par_line s) c.tx.world.past ≡ true
  pub cell : IsCellOf s k honest c

all_head : {X : Type 0} (P : X → Type 0) (x : X) (xs : List X) → All P (x ∷ xs) → P x
all_head P x xs all = all 0 x (omega arith)

pub all_done : {D : Type 0} (s : List Line) (k : ℕ) (honest : Bool) (log : LogCell D) (cs : List Cell) → each (λ c. are_entered c.rows) cs ≡ true → each (λ c. is_empty (pending c.tx.world)) cs ≡ true
    → All (λ c. TiesWith c.tx log.log) cs → each (λ c. follows log.past c.tx.world.past) cs ≡ true → each (λ c. are_first (par_line s) c.tx.world.past) cs ≡ true → All (IsCellOf s k honest) cs → AllOf (IsDone s k honest log) cs
all_done s k honest log [] entered settled ties followed first cells = tt
all_done s k honest log (c ∷ cs) entered settled ties followed first cells = (
  record {
    entered = and_left (are_entered c.rows) (each (λ c. are_entered c.rows) cs) entered;
    settled = and_left (is_empty (pending c.tx.world)) (each (λ c. is_empty (pending c.tx.world)) cs) settled;
    tied = all_head (λ c. TiesWith c.tx log.log) c cs ties;
    followed = and_left (follows log.past c.tx.world.past) (each (λ c. follows log.past c.tx.world.past) cs) followed;
    first = and_left (are_first (par_line s) c.tx.world.past) (each (λ c. are_first (par_line s) c.tx.world.past) cs) first;
    cell = all_head (IsCellOf s k honest) c cs cells;
  },
  all_done s k honest log cs (and_right (are_entered c.rows) (each (λ c. are_entered c.rows) cs) entered) (and_right (is_empty (pending c.tx.world)) (each (λ c. is_empty (pending c.tx.world)) cs) settled)
      (All-tail (λ c. TiesWith c.tx log.log) c cs ties) (and_right (follows log.past c.tx.world.past) (each (λ c. follows log.past c.tx.world.past) cs) followed)
      (and_right (are_first (par_line s) c.tx.world.past) (each (λ c. are_first (par_line s) c.tx.world.past) cs) first) (All-tail (IsCellOf s k honest) c cs cells),
)

-- A transaction of the trace, newest first: the history of one of these cells, or none, and then no line of the script makes it.
abbrev pub Stands : {D : Type 0} → List Line → ℕ → Bool → LogCell D → List Entry → TxNo → Type 0
Stands s k honest log h t =
    ((c : Cell) × (c.tx.transaction ≡ first_id t) × IsDone s k honest log c × (h ≡ c.tx.world.past)) ⊎ ((is_among t.value (transactions_of s) ≡ false) × (h ≡ []))

pub found_stands : {D : Type 0} (s : List Line) (k : ℕ) (honest : Bool) (log : LogCell D) (t : TxNo) (cs : List Cell) (h : List Entry) (T : List Placed) → numbers cs ≡ transactions_of s → h ≡ history t.value T
    → IsFound (IsDone s k honest log) t.value cs (history t.value T) → Stands s k honest log h t
found_stands s k honest log t cs h T named is (inl f) = inl (f.0, sym (of_first f.0.tx.transaction f.2.cell.kept.first) ∙ ap first_id (same_transaction f.0.tx.transaction.t t f.1), f.2, is ∙ f.3)
found_stands s k honest log t cs h T named is (inr f) = inr (ap (is_among t.value) (sym named) ∙ f.0, is ∙ f.1)

-- Each transaction's history is caused by the script: one that it doesn't make has none.
none_caused : (s : List Line) (k t : ℕ) → Caused s k t []
none_caused s k t = record { freely = ([], ([], (refl, refl))); planned = refl }

pub caused_there : {D : Type 0} (s : List Line) (k : ℕ) (honest : Bool) (log : LogCell D) (t : TxNo) (h : List Entry) → Stands s k honest log h t → Caused s k t.value h
caused_there s k honest log t h (inl f) = subst (λ (x : List Entry). Caused s k t.value x) (sym f.3) (subst (λ (u : TxId). Caused s k (number_of u) f.0.tx.world.past) f.1 f.2.cell.caused)
caused_there s k honest log t h (inr f) = subst (λ (x : List Entry). Caused s k t.value x) (sym f.1) (none_caused s k t.value)

-- It is settled.
empty_is : {A : Type 0} (xs : List A) → is_empty xs ≡ true → xs ≡ []
empty_is [] e = refl
empty_is (x ∷ xs) e = absurd cc

none_settled : (s : List Line) → Settled s []
unfolding pending local_pending all_due observe act_entries coordinate may_log may_free
none_settled s = refl

cell_settled : {D : Type 0} (s : List Line) (k : ℕ) (honest : Bool) (log : LogCell D) (c : Cell) → IsDone s k honest log c → Settled s c.tx.world.past
cell_settled s k honest log c d =
    let t = (number_of c.tx.transaction) in
    let run = d.cell.run in
    let by_script = lift_ran (IsIn c.tx.world.calls) (IsCallOf s t) d.cell.kept.given t run.0 c.tx.world run.1 in
    sym (pending_same s t c.tx.world.calls c.tx.world.past (ran_calls s t run.0 c.tx.world by_script)) ∙ empty_is (pending c.tx.world) d.settled

pub settled_there : {D : Type 0} (s : List Line) (k : ℕ) (honest : Bool) (log : LogCell D) (t : TxNo) (h : List Entry) → Stands s k honest log h t → Settled s h
settled_there s k honest log t h (inl f) = subst (Settled s) (sym f.3) (cell_settled s k honest log f.0 f.2)
settled_there s k honest log t h (inr f) = subst (Settled s) (sym f.1) (none_settled s)

-- Each restart in it found what may be found, over an honest disk.
pub tied_there : {D : Type 0} (s : List Line) (k : ℕ) (honest : Bool) (log : LogCell D) (t : TxNo) (h : List Entry) → IsTrue honest → Stands s k honest log h t → tied h ≡ true
tied_there s k honest log t h sure (inl f) = ap tied f.3 ∙ f.2.cell.kept.sound sure
tied_there s k honest log t h sure (inr f) = ap tied f.1

-- No append in it found the log full, over an honest disk.
pub unfilled_there : {D : Type 0} (s : List Line) (k : ℕ) (honest : Bool) (log : LogCell D) (t : TxNo) (h : List Entry) → IsTrue honest → Stands s k honest log h t → has is_log_full h ≡ false
unfilled_there s k honest log t h sure (inl f) = ap (has is_log_full) f.3 ∙ f.2.cell.kept.unfilled sure
unfilled_there s k honest log t h sure (inr f) = ap (has is_log_full) f.1

-- The calls of the lines before `par` come first in it.
pub first_there : {D : Type 0} (s : List Line) (k : ℕ) (honest : Bool) (log : LogCell D) (t : TxNo) (h : List Entry) → Stands s k honest log h t → are_first (par_line s) h ≡ true
first_there s k honest log t h (inl f) = ap (are_first (par_line s)) f.3 ∙ f.2.first
first_there s k honest log t h (inr f) = ap (are_first (par_line s)) f.1

-- It follows the log.
same_follows : (T : List Placed) (t : TxNo) (h l : List Entry) → history t.value T ≡ h → at_log T ≡ l → follows_log T t ≡ follows l h
same_follows T t h l is log = ap (λ (x : List Entry). follows (at_log T) x) is ∙ ap (λ (x : List Entry). follows x h) log

at_least_none : (n : ℕ) → nat_le 0 n ≡ true
at_least_none n = grind (arith, nat_tests)

none_follows : (l : List Entry) → follows l [] ≡ true
none_follows l = rw (at_least_none (how_many is_stop l)) (rw (at_least_none (how_many is_opened l)) refl)

pub followed_there : {D : Type 0} (s : List Line) (k : ℕ) (honest : Bool) (log : LogCell D) (T : List Placed) (t : TxNo) → at_log T ≡ log.past → Stands s k honest log (history t.value T) t → follows_log T t ≡ true
followed_there s k honest log T t l (inl f) = same_follows T t f.0.tx.world.past log.past f.3 l ∙ f.2.followed
followed_there s k honest log T t l (inr f) = same_follows T t [] log.past f.1 l ∙ none_follows log.past

each_so : {A : Type 0} (p : A → Bool) → ((x : A) → p x ≡ true) → (xs : List A) → each p xs ≡ true
each_so p all [] = refl
each_so p all (x ∷ xs) = and_both (p x) (each p xs) (all x) (each_so p all xs)

pub all_follow : (T : List Placed) → ((t : TxNo) → follows_log T t ≡ true) → follow_log T ≡ true
all_follow T all = each_so (follows_log T) all (transactions T)
