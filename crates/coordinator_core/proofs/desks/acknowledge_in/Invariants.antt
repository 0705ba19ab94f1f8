use Rattle.std.proofs.Common.{◌≡◌, ◌++◌, map, take, drop}
use Rattle.dtx_model.specs.Coordinated.{with_ack}
use Rattle.coordinator_core.proofs.desks.acknowledge_in.Given as goal

abbrev pub invariant-loop-d : goal.invariant-loop-d
invariant-loop-d l = l.desks ≡ map (with_ack l.e.value) (take l.d-index l.initial.desks) ++ drop l.d-index l.initial.desks
