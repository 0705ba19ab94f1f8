-- Going through the pending steps, one place after the other.
use Rattle.std.proofs.Common.{◌≡◌, ℕ, ◌+◌, ◌<◌, true, false, ◌||◌, List, ◌∷◌, length, drop, get_or, Option, Some, ap, sym, ◌∙◌, add-one}
use Rattle.std.proofs.Math.Seq.{drop-cons}
use Rattle.std.proofs.lemmas.Option.{slice_get-get_or}
use Rattle.dtx_values.specs.declared.note.Note.{Note}
use Rattle.dtx_values.specs.declared.number.EnlNo.{EnlNo}
use Rattle.dtx_model.specs.Words.{has, kth}
use Rattle.dtx_model.specs.World.{World}
use Rattle.dtx_model.specs.Steps.{StepName, LocalAct, pending}
use Rattle.tx_world.specs.Stepping.{reply_in}
use Rattle.turn_parts.specs.Marks.{is_due, is_that}

-- the step at place k, from 0
pub step_at : List StepName → ℕ → StepName
step_at ms k = get_or ms k LocalAct

pub from_here : (ms : List StepName) (k : ℕ) → k < length ms → drop k ms ≡ step_at ms k ∷ drop (k + 1) ms
unfolding step_at
from_here ms k h = rw add-one (drop-cons ms k LocalAct h)

pub here : (ms : List StepName) (k : ℕ) → k < length ms → kth ms (k + 1) ≡ Some (step_at ms k)
unfolding step_at
here ms k h = rw add-one (slice_get-get_or ms k LocalAct h)

-- A search for one reply.
due_step : (w : World) (x : EnlNo × Note) (ms : List StepName) (k : ℕ) → k < length ms
    → has (λ m. is_that x (reply_in w (Some m))) (drop k ms) ≡ (is_that x (reply_in w (kth ms (k + 1))) || has (λ m. is_that x (reply_in w (Some m))) (drop (k + 1) ms))
due_step w x ms k h =
    ap (has (λ m. is_that x (reply_in w (Some m)))) (from_here ms k h)
    ∙ ap (λ (o : Option StepName). is_that x (reply_in w o) || has (λ m. is_that x (reply_in w (Some m))) (drop (k + 1) ms)) (sym (here ms k h))

pub due_found : (w : World) (x : EnlNo × Note) (k : ℕ) (o : Option (EnlNo × Note)) → k < length (pending w) → has (λ m. is_that x (reply_in w (Some m))) (drop k (pending w)) ≡ is_due w x → o ≡ reply_in w (kth (pending w) (k + 1)) → is_that x o ≡ true
    → true ≡ is_due w x
due_found w x k o h so_far e is =
    let rest = has (λ m. is_that x (reply_in w (Some m))) (drop (k + 1) (pending w)) in
    ap (λ b. b || rest) (sym (sym (ap (is_that x) e) ∙ is)) ∙ (sym (due_step w x (pending w) k h) ∙ so_far)

pub due_on : (w : World) (x : EnlNo × Note) (k : ℕ) (o : Option (EnlNo × Note)) → k < length (pending w) → has (λ m. is_that x (reply_in w (Some m))) (drop k (pending w)) ≡ is_due w x → o ≡ reply_in w (kth (pending w) (k + 1)) → is_that x o ≡ false
    → has (λ m. is_that x (reply_in w (Some m))) (drop (k + 1) (pending w)) ≡ is_due w x
due_on w x k o h so_far e is =
    let rest = has (λ m. is_that x (reply_in w (Some m))) (drop (k + 1) (pending w)) in
    ap (λ b. b || rest) (sym (sym (ap (is_that x) e) ∙ is)) ∙ (sym (due_step w x (pending w) k h) ∙ so_far)
