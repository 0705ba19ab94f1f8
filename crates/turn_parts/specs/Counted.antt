-- The count of a disk's faults, and what the entries at the log tell of it.
use Rattle.std.specs.Prelude.{ℕ, ◌+◌, ◌-◌, ◌^◌, ◌<◌, ◌≤◌, Bool, true, false, List, Option, Some, None}
use Rattle.dtx_values.specs.declared.entry.Entry.{Entry}
use Rattle.dtx_model.specs.AtLog.{armed, faults as faults_told, one_if}
use Rattle.coordinator_log.specs.declared.stop.ArmedStop.{ArmedStop}

-- the last value of a count of faults, which doesn't rise any more
abbrev pub LAST : ℕ
LAST = 2 ^ 64 - 1

-- a stop is armed at the log that its entries have used up: a fault came in its place
abbrev pub is_left : Option ArmedStop → Option ℕ → Bool
is_left (Some s) None = true
is_left _ _ = false

-- The disk's count of faults was `before` at the start and is `now`: the faults that the entries tell of, and one in place of an armed stop that is left over, rose it, unless it is at its last
-- value.
pub record AreCounted (before now : ℕ) (stop : Option ArmedStop) (past : List Entry) : Type 0 where
  pub grows : before ≤ now
  pub told : now < LAST → before + one_if (is_left stop (armed past)) (faults_told past) ≤ now
