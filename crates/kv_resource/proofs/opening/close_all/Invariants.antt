use Rattle.std.proofs.Common.{◌≡◌, ◌≤◌, ◌-◌, None, length, vec_capacity}
use Rattle.std.specs.Prelude.{replicate}
use Rattle.kv_resource.proofs.opening.close_all.Given as goal

-- only closed slots were put there
abbrev pub invariant-loop-slots : goal.invariant-loop-slots
invariant-loop-slots l = record {
  closed : l.slots.items ≡ replicate (length l.slots.items) None;
  few : length l.slots.items ≤ 1024;
  room : 1024 ≤ vec_capacity l.slots;
}

abbrev pub decreases-loop-slots : goal.decreases-loop-slots
decreases-loop-slots l = 1024 - length l.slots.items
