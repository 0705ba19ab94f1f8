use Rattle.std.proofs.Common.{◌≡◌, ◌++◌, map, take, drop}
use Rattle.dtx_model.specs.Observed.{lose}
use Rattle.half_parts.proofs.listeners.lose_all.Given as goal

abbrev pub invariant-loop-l : goal.invariant-loop-l
invariant-loop-l l = l.listeners ≡ map (lose l.e.value) (take l.l-index l.initial.listeners) ++ drop l.l-index l.initial.listeners
