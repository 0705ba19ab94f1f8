use Rattle.std.proofs.Common.{◌≡◌, ◌++◌, map, take, drop}
use Rattle.tx_map.specs.Notes.{marked}
use Rattle.tx_map.proofs.live.mark.Given as goal

abbrev pub invariant-loop-w : goal.invariant-loop-w
invariant-loop-w l = l.live ≡ map (marked (l.t, l.e)) (take l.w-index l.initial.live) ++ drop l.w-index l.initial.live
