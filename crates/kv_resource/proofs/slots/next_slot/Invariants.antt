use Rattle.std.proofs.Common.{◌≡◌, ◌≤◌, drop}
use Rattle.kv_resource.specs.Store.{above_highest}
use Rattle.kv_resource.proofs.slots.next_slot.Given as goal

abbrev pub invariant-loop-k : goal.invariant-loop-k
invariant-loop-k l = record { so_far : above_highest l.k (drop l.k l.slots) l.next ≡ above_highest 0 l.slots 0; low : l.next ≤ l.k }
