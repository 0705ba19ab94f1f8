-- A log that has only records of the run, each at most once, isn't full; and a history in which none found it full stays so.
use Rattle.std.proofs.Common.{◌≡◌, ◌≤◌, ◌<◌, ◌+◌, ◌==◌, ℕ, zero, suc, Bool, true, false, ◌&&◌, not, List, ◌∷◌, filter, inl, refl, ap, sym, ◌∙◌, arith, if◌then◌else◌}
use Rattle.std.specs.Prelude.{IsTrue}
use Rattle.std.specs.List.{range_with_len}
use Rattle.std.proofs.lemmas.Bool.{eqb-true}
use Rattle.dtx_values.specs.declared.script.Line.{Line}
use Rattle.dtx_model.specs.Grammar.{OfTransaction, is_made}
use Rattle.dtx_model.specs.Log.{CommitRecord}
use Rattle.dtx_model.specs.Promotes.{identifier_of}
use Rattle.dtx_model.specs.Steps.{Coordinates, Done, Full, Step, StoppedBefore, StoppedNow, Stops, after, block_at}
use Rattle.dtx_model.specs.Caused.{is_full_answer}
use Rattle.dtx_model.specs.World.{World}
use Rattle.dtx_model.specs.Words.{has}
use Rattle.dtx_model.proofs.Bools.{or_case, or_false}
use Rattle.dtx_model.proofs.Reading.{has-onto}
use Rattle.coordinator_log.specs.Slots.{open_records}
use Rattle.coordinator_log.specs.State.{LogState}
use Rattle.tx_world.specs.State.{TxState, sends_begin, turned}
use Rattle.tx_world.specs.Stepping.{IsAnswered}
use Rattle.tx_cells.specs.Board.{transactions_of}
use Rattle.tx_cells.specs.Cell.{is_log_full}
use Rattle.tx_cells.specs.LogCell.{AreOwn, is_own}
use Rattle.turn_parts.proofs.Filling.{unfilled_block}
use Rattle.turn_parts.proofs.Room.{few_passing, has_room}

-- where one of some numbers in a row passes, it is one of them
in_row : (p q : ℕ → Bool) (n a : ℕ) → has p (filter q (range_with_len a n)) ≡ true → (t : ℕ) × (a ≤ t) × (t < a + n) × (p t ≡ true)
in_row p q zero a h = absurd cc
in_row p q (suc n) a h = by (q a) (λ k. let x = in_row p q n (a + 1) k in let low = x.1 in let high = x.2 in (x.0, omega arith, omega arith, x.3)) h
  where
    by : (b : Bool) → (has p (filter q (range_with_len (a + 1) n)) ≡ true → (t : ℕ) × (a ≤ t) × (t < a + suc n) × (p t ≡ true)) → has p (if b then a ∷ filter q (range_with_len (a + 1) n) else filter q (range_with_len (a + 1) n)) ≡ true
        → (t : ℕ) × (a ≤ t) × (t < a + suc n) × (p t ≡ true)
    by true rest k = or_case (p a) (has p (filter q (range_with_len (a + 1) n))) (λ is. (a, omega arith, omega arith, is)) rest k
    by false rest k = rest k

own_number : (s : List Line) (r : CommitRecord) → is_own s r ≡ true → (t : ℕ) × (1 ≤ t) × (t ≤ 256) × (r.id ≡ identifier_of t)
unfolding transactions_of
own_number s r own =
    let found = in_row (λ t. r.id == identifier_of t) (λ n. is_made s (OfTransaction n)) 256 1 own in
    let high = found.2 in (found.0, found.1, omega arith, eqb-true r.id (identifier_of found.0) found.3)

-- the step is an act of the coordinator that finds the log full
abbrev pub finds_full : Step → Bool
finds_full (Coordinates a) = is_full_answer a
finds_full _ = false

-- So no step finds it full.
pub never_full : {D : Type 0} (faults : D → ℕ) (s : List Line) (x : TxState) (from to : LogState D) (m : Step) → IsAnswered faults x from to m → (IsTrue from.is_up → AreOwn s (open_records from.slots)) → finds_full m ≡ false
never_full faults s x from to (Coordinates Full) e own = by from.is_up refl
  where
    by : (up : Bool) → from.is_up ≡ up → true ≡ false
    by true up = let run_only = own up in absurd (has_room from.slots (few_passing (is_own s) (open_records from.slots) (own_number s) run_only.own run_only.once) (e.full refl))
    by false down = let is : Full ≡ StoppedBefore = e.before.1 (inl down) in absurd cc
never_full faults s x from to (Coordinates Done) e own = refl
never_full faults s x from to (Coordinates StoppedNow) e own = refl
never_full faults s x from to (Coordinates StoppedBefore) e own = refl
never_full faults s x from to m e own = refl

-- A history in which no append found the log full stays so in each step that doesn't find it so,
unfilled_after : (t : ℕ) (w : World) (m : Step) → finds_full m ≡ false → has is_log_full w.past ≡ false → has is_log_full (after t w m).past ≡ false
unfolding after
unfilled_after t w m room was =
    has-onto is_log_full w.past (block_at t w m)
    ∙ or_false (has is_log_full (block_at t w m)) (has is_log_full w.past)
    (unfilled_block t w m (λ (is : m ≡ Coordinates Full). let full : finds_full m ≡ true = ap (λ (x : Step). finds_full x) is in let clash : true ≡ false = sym full ∙ room in cc)) was

-- also where the coordinator stops at once after it.
pub unfilled_turned : (up : Bool) (t : ℕ) (w : World) (m : Step) → finds_full m ≡ false → has is_log_full w.past ≡ false → has is_log_full (turned up t w m).past ≡ false
unfilled_turned up t w m room was = by (sends_begin t w m && not up)
  where
    by : (b : Bool) → has is_log_full (if b then after t (after t w m) Stops else after t w m).past ≡ false
    by true = unfilled_after t (after t w m) Stops refl (unfilled_after t w m room was)
    by false = unfilled_after t w m room was
