use Rattle.std.proofs.Common.{◌≡◌, ◌++◌, map, take, drop, Some}
use Rattle.dtx_model.specs.Coordinated.{with_ballot}
use Rattle.coordinator_core.proofs.desks.vote.Given as goal

abbrev pub invariant-loop-d : goal.invariant-loop-d
invariant-loop-d l = l.desks ≡ map (with_ballot l.e.value (Some l.b)) (take l.d-index l.initial.desks) ++ drop l.d-index l.initial.desks
