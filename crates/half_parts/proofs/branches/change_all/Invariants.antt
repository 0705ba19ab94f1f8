use Rattle.std.proofs.Common.{◌≡◌, ◌++◌, map, take, drop}
use Rattle.half_parts.specs.Branches.{changed}
use Rattle.half_parts.proofs.branches.change_all.Given as goal

abbrev pub invariant-loop-b : goal.invariant-loop-b
invariant-loop-b l = l.branches ≡ map (changed l.e.value l.x) (take l.b-index l.initial.branches) ++ drop l.b-index l.initial.branches
