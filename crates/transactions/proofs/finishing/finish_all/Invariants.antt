use Rattle.std.proofs.Common.{◌⊎◌, ◌≤◌, ◌+◌, List, map, vec_capacity, vec_len}
use Rattle.coordinator_log.specs.Slots.{open_records}
use Rattle.recovery_laws.specs.Stepwise.{doubts}
use Rattle.resource_managers.specs.Holding.{Holding}
use Rattle.transactions.specs.Recovery.{IsFoundPartly, finish_told}
use Rattle.transactions.proofs.Partly.{IsUnderWay}
use Rattle.transactions.proofs.finishing.finish_all.Given as goal

-- the first that were in doubt are finished, and there is room for the others; a crash leaves what was held at some time; and what fails from now on fails counted from the start
abbrev pub invariant-loop-e : goal.invariant-loop-e
invariant-loop-e g l =
    record {
      way : IsUnderWay (open_records l.log.slots) l.rm.value (g.R.Recoverable.holds l.initial.r) (g.R.Recoverable.holds l.r) (map finish_told l.finished.items);
      room : vec_len l.finished + doubts (g.R.Recoverable.holds l.r) ≤ vec_capacity l.finished;
      images : (hs : List Holding) → g.R.Recoverable.leaves l.r hs
          → g.R.Recoverable.leaves l.initial.r hs ⊎ IsFoundPartly (open_records l.log.slots) l.rm.value (g.R.Recoverable.holds l.initial.r) hs;
      since : (x : g.row.R.Denot) → g.R.Recoverable.fails l.r x → g.R.Recoverable.fails l.initial.r x;
    }

-- each turn leaves one fewer in doubt
abbrev pub decreases-loop-e : goal.decreases-loop-e
decreases-loop-e g l = doubts (g.R.Recoverable.holds l.r)
