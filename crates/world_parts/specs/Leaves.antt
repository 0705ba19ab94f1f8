-- What the act of a coordinator leaves of the log and of what is kept there.
use Rattle.std.specs.Prelude.{ℕ, ◌≡◌, ◌≤◌, Bool, true, List, None, IsTrue, is_some}
use Rattle.dtx_model.specs.Coordinated.{Coordinated}
use Rattle.dtx_model.specs.Promotes.{identifier_of}
use Rattle.coordinator_log.specs.State.{LogState}
use Rattle.world_parts.specs.AtLog.{IsFit, IsOurs, Keeps, Kept, LeavesSlots}
use Rattle.world_parts.specs.Prepared.{Names}

-- A later state of a log that was neither armed nor opened in between: it is in the same life, no fault is taken back, a stop is armed only where one was, and it is up only
-- where it was.
pub record IsLater {D : Type 0} (faults : D → ℕ) (from to : LogState D) : Type 0 where
  pub life : to.life ≡ from.life
  pub grows : faults from.disk ≤ faults to.disk
  pub unarmed : from.armed ≡ None → to.armed ≡ None
  pub still : IsTrue to.is_up → IsTrue from.is_up

-- What an act at the log of the coordinator of transaction t leaves of the log, and of what the coordinator keeps there, x before the act and y after it: that is what the coordinator knows; one that stopped keeps
-- a record where it kept one; it keeps what `Keeps` says of an honest log, and the records that the log keeps in memory; and the record that is kept still names who said PREPARED.
pub record LeavesKept {D : Type 0} (honest : Bool) (image : D → List ℕ → Type 0) (t : ℕ) (before : Coordinated) (x : Kept) (from : LogState D) (after_it : Coordinated) (y : Kept) (to : LogState D) : Type 0 where
  pub ours : IsOurs (identifier_of t) after_it y
  pub had : after_it.stopped ≡ true → is_some x.ours ≡ true → is_some y.ours ≡ true
  pub kept : IsTrue honest → Keeps image (identifier_of t) (IsFit (identifier_of t) x.ours x.unsure) (IsFit (identifier_of t) y.ours y.unsure) from to
  pub slots : LeavesSlots (identifier_of t) x.ours y.ours from to
  pub named : Names t x.ours before → Names t y.ours after_it
