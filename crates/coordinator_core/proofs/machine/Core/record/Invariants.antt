use Rattle.std.proofs.Common.{◌≡◌, ◌≤◌, ◌++◌, drop, map, take}
use Rattle.dtx_values.specs.RecoveryInfo.{pair_of}
use Rattle.coordinator_core.proofs.Loops.{pairs_of}
use Rattle.coordinator_core.proofs.machine.Core.record.Given as goal

abbrev pub invariant-loop-d : goal.invariant-loop-d
invariant-loop-d l = record {
  id : l.record.id ≡ l.initial.record.id;
  count : l.record.count ≤ l.d-index;
  pairs : map pair_of (take l.record.count l.record.durables) ++ pairs_of (drop l.d-index l.d-items) ≡ pairs_of l.d-items;
}
