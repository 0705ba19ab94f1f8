use Rattle.run_endings.proofs.Left.{IsBest}
use Rattle.run_endings.proofs.finishing.entering.next_place.Given as goal

abbrev pub invariant-loop-i : goal.invariant-loop-i
invariant-loop-i g l = IsBest l.a l.states l.i l.best
