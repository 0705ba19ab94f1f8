use Rattle.std.proofs.Common.{◌≡◌, ◌≤◌, ◌-◌, length, vec_capacity}
use Rattle.coordinator_log.specs.Slots.{with_closed}
use Rattle.coordinator_log.proofs.slots.reach.Given as goal

-- only closed slots were put there
abbrev pub invariant-loop-slots : goal.invariant-loop-slots
invariant-loop-slots l =
    record {
      same : with_closed 1024 l.slots.items ≡ with_closed 1024 l.initial.slots.items;
      few : length l.slots.items ≤ 1024;
      room : 1024 ≤ vec_capacity l.slots;
    }

abbrev pub decreases-loop-slots : goal.decreases-loop-slots
decreases-loop-slots l = l.n - length l.slots.items
