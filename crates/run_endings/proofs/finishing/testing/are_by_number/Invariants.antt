use Rattle.run_endings.proofs.ByNumber.{IsRest}
use Rattle.run_endings.proofs.finishing.testing.are_by_number.Given as goal

abbrev pub invariant-loop-n : goal.invariant-loop-n
invariant-loop-n g l = IsRest l.s l.states l.rest l.n
