use Rattle.std.proofs.Common.{◌≡◌, ◌++◌, map, take, drop}
use Rattle.dtx_model.specs.Scopes.{completed_in}
use Rattle.scope_context.proofs.context.complete.Given as goal

abbrev pub invariant-loop-x : goal.invariant-loop-x
invariant-loop-x l = l.x-items ≡ map (completed_in l.s.value) (take l.x-index l.initial.x-items) ++ drop l.x-index l.initial.x-items
