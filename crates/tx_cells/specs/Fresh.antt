-- The log that a run begins with.
use Rattle.std.specs.Prelude.{◌≡◌, ◌≤◌, ◌^◌, ℕ, Bool, List, [], None, IsTrue}
use Rattle.coordinator_log.specs.Slots.{open_records}
use Rattle.coordinator_log.specs.State.{LogState}
use Rattle.dtx_values.specs.declared.script.Line.{Line}
use Rattle.tx_cells.specs.Cell.{IsThreadable}

-- The log is up and empty, no stop is armed on it, and its life is far from the last.
pub record IsFresh {D : Type 0} (log : LogState D) : Type 0 where
  pub up : IsTrue log.is_up
  pub empty : open_records log.slots ≡ []
  pub unarmed : log.armed ≡ None
  pub life : log.life ≤ 2 ^ 62

-- The run that is named by this script, by whether its disk tells what it holds, and by a count of faults may begin with the script s and the log: the script is the run's, and can run on threads; the disk tells what it holds where
-- the run's does, and has counted so many faults at least; and the log is fresh.
pub record MayBegin {D : Type 0} (script : List Line) (honest : Bool) (least : ℕ) (tells : Bool) (count : D → ℕ) (s : List Line) (log : LogState D) : Type 0 where
  pub named : s ≡ script
  pub threadable : IsThreadable s
  pub honesty : tells ≡ honest
  pub faults : least ≤ count log.disk
  pub fresh : IsFresh log
