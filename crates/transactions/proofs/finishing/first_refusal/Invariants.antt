use Rattle.std.proofs.Common.{◌≡◌, drop}
use Rattle.coordinator_log.specs.Slots.{open_records}
use Rattle.transactions.specs.Recovery.{first_obstacle}
use Rattle.transactions.proofs.finishing.first_refusal.Given as goal

-- none before the place is an obstacle
abbrev pub invariant-loop-place : goal.invariant-loop-place
invariant-loop-place g l =
    first_obstacle (open_records l.log.slots) l.lives l.rm.value (g.R.Recoverable.holds l.r) ≡ first_obstacle (open_records l.log.slots) l.lives l.rm.value (drop l.place (g.R.Recoverable.holds l.r))
