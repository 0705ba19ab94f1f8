-- Where a turn isn't done since two kept values differ, one of the transactions doesn't tie with the log; and what the test at the end finds.
use Rattle.std.proofs.Common.{◌≡◌, ℕ, ◌+◌, ◌<◌, ◌↔◌, IsTrue, Bool, true, false, List, Result, Ok, Err, length, set, take, get_or, inl, inr, if◌then◌else◌, refl, ap, sym, subst, ◌∙◌}
use Rattle.std.specs.Prelude.{Contains, IfErr, IsErrAnd}
use Rattle.std.specs.List.{All}
use Rattle.std.proofs.lemmas.List.{get_or-set_same, length-set}
use Rattle.std.proofs.lemmas.List.Elements.{All-more}
use Rattle.dtx_values.specs.declared.script.Line.{Line}
use Rattle.coordinator_log.specs.State.{LogState}
use Rattle.script_calls.specs.FirstCalls.{par_line}
use Rattle.tx_cells.specs.Cell.{Cell}
use Rattle.tx_cells.specs.Following.{followed, heard_opened, heard_stopped}
use Rattle.tx_cells.specs.LogCell.{LogCell}
use Rattle.tx_cells.specs.Ties.{TiesWith}
use Rattle.tx_cells.specs.declared.error.TurnError.{TurnError}
use Rattle.tx_cells.specs.declared.error.TurnError.TheVariants.{Memory, Differs as TheyDiffer}
use Rattle.tx_cells.specs.Turns.{with_tx}
use Rattle.tx_world.specs.State.{TxState, is_hit_by, is_reached_by}
use Rattle.tx_cells.proofs.Causes.{cause_named}
use Rattle.run_endings.specs.Stops.{EndsFor, IsReason, IsWrong, StopsFor, run_stop}
use Rattle.run_endings.specs.declared.stop.RunStop.{RunStop}
use Rattle.run_endings.specs.declared.stop.RunStop.TheVariants as Stop
use Rattle.dtx_model.specs.AtLog.{follows}

-- a turn at one of the transactions isn't done, and the run stops for its reason
stops_at : {D : Type 0} (cells : List Cell) (y : Cell) (log : LogCell D) (e : TurnError) → Contains cells y → IsReason y.tx log.log e → StopsFor cells log (run_stop e)
stops_at cells y log Memory among why = tt
stops_at cells y log (TheyDiffer d) among (inl m) = absurd cc
stops_at cells y log (TheyDiffer d) among (inr c) = ((y, among, c.untied), cause_named y.tx log.log (TheyDiffer d) c)

-- the error that came through a `?`
pub stop_is : {A : Type 0} (P : RunStop → Type 0) (r : Result A RunStop) (x : RunStop) → IsErrAnd r (λ y. y ≡ x) → P x → IfErr r P
stop_is P (Ok a) x made p = tt
stop_is P (Err y) x made p = subst P (sym made) p

-- the turn was done at one of the transactions
pub untied_at : {A D : Type 0} (cells : List Cell) (i : ℕ) (y : Cell) (log : LogCell D) (e : TurnError) (r : Result A RunStop) → i < length cells → IsReason y.tx log.log e → IsErrAnd r (λ x. x ≡ run_stop e) → IfErr r (StopsFor (set cells i y) log)
untied_at cells i y log e r less why made =
    stop_is (StopsFor (set cells i y) log) r (run_stop e) made (stops_at (set cells i y) y log e (i, subst (λ n. i < n) (sym (length-set cells i y)) less, get_or-set_same cells i y y less) why)

-- what is wrong with one of the transactions keeps the run from its end
pub wrong_at : {D : Type 0} (s : List Line) (cells : List Cell) (x : Cell) (log : LogCell D) (e : RunStop) → Contains cells x → IsWrong (par_line s) x log e → EndsFor s cells log e
wrong_at s cells x log Stop.Memory among wrong = absurd wrong
wrong_at s cells x log (Stop.Differs d) among wrong = ((x, among, wrong.0), wrong.1)
wrong_at s cells x log Stop.Astray among (inl wrong) = inr (inl (x, among, wrong))
wrong_at s cells x log Stop.Astray among (inr wrong) = inr (inr (inl (x, among, wrong)))

-- what is so of the items before this one, and of it, is so of one more
pub all_more : {A : Type 0} (P : A → Type 0) (xs : List A) (i : ℕ) (x : A) → i < length xs → x ≡ get_or xs i x → All P (take i xs) → P x → All P (take (i + 1) xs)
all_more P xs i x less here all is = All-more P xs i x less all (subst P here is)

-- what a transaction hears of the log leaves it the same transaction
pub same_followed : {D : Type 0} (x y : Cell) (log : LogState D) → y ≡ with_tx (followed x.tx log) x → y.tx.transaction ≡ x.tx.transaction
same_followed x y log heard = ap (λ (c : Cell). c.tx.transaction) heard ∙ by log.is_up (is_reached_by log.life x.tx) (is_hit_by log.life x.tx)
  where
    by : (up reached hit : Bool) → (if up then (if reached then heard_opened x.tx log else x.tx) else (if hit then heard_stopped x.tx else x.tx)).transaction ≡ x.tx.transaction
    by true true hit = refl
    by true false hit = refl
    by false reached true = refl
    by false reached false = refl
