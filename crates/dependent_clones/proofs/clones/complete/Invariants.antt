use Rattle.std.proofs.Common.{◌≡◌, ◌++◌, map, take, drop}
use Rattle.dependent_clones.specs.Distinct.{complete_in}
use Rattle.dependent_clones.proofs.clones.complete.Given as goal

abbrev pub invariant-loop-r : goal.invariant-loop-r
invariant-loop-r l = l.r-items ≡ map (λ r. complete_in l.c.value r) (take l.r-index l.initial.r-items) ++ drop l.r-index l.initial.r-items
