use Rattle.std.proofs.Common.{◌≡◌, ◌++◌, map, take}
use Rattle.outcome_reasons.specs.Whys.{by_number}
use Rattle.outcome_reasons.proofs.lines.add_said.Given as goal

abbrev pub invariant-loop-x : goal.invariant-loop-x
invariant-loop-x l = map by_number l.all.items ≡ map by_number l.fn.all.items ++ map (λ w. (l.t.value, w)) (take l.x-index l.said)
