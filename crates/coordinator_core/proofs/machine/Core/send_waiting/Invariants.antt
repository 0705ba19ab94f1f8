use Rattle.std.proofs.Common.{◌≡◌, drop}
use Rattle.dtx_values.specs.Outgoing.{written}
use Rattle.coordinator_core.specs.Kept.{Uses}
use Rattle.coordinator_core.proofs.Loops.{to_these}
use Rattle.coordinator_core.proofs.machine.Core.send_waiting.Given as goal

abbrev pub invariant-loop-e : goal.invariant-loop-e
invariant-loop-e l = record {
  whole : written l.out (to_these l.self.state l.m (drop l.e-index l.e-items)) ≡ written l.initial.out (to_these l.self.state l.m l.e-items);
  used : Uses l.e-index l.initial.out l.out;
}
