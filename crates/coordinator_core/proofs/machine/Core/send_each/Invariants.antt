use Rattle.std.proofs.Common.{◌≡◌, drop}
use Rattle.dtx_values.specs.Outgoing.{written}
use Rattle.coordinator_core.specs.Hearing.{told}
use Rattle.coordinator_core.specs.Kept.{Uses}
use Rattle.coordinator_core.proofs.machine.Core.send_each.Given as goal

abbrev pub invariant-loop-d : goal.invariant-loop-d
invariant-loop-d l = record {
  whole : written l.out (told l.self.state l.m (drop l.d-index l.d-items)) ≡ written l.initial.out (told l.self.state l.m l.d-items);
  used : Uses l.d-index l.initial.out l.out;
}
