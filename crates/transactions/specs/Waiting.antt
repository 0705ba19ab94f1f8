-- A transaction that goes on only by a call, a reply or the time.
use Rattle.std.specs.Prelude.{ℕ, ◌≡◌, true, Some, is_some}
use Rattle.dtx_model.specs.Words.{kth}
use Rattle.dtx_model.specs.World.{World}
use Rattle.dtx_model.specs.Steps.{StepName, pending}
use Rattle.tx_world.specs.Stepping.{reply_in}

-- each step that is pending is a reply of an enlistment that was asked
abbrev pub AllAsked : World → Type 0
AllAsked w = (k : ℕ) → (s : StepName) → kth (pending w) k ≡ Some s → is_some (reply_in w (Some s)) ≡ true
