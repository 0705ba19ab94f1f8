use Rattle.history_judge.proofs.Faults.{IsGoodTo}
use Rattle.history_judge.proofs.verdict.judge.Given as goal

abbrev pub invariant-loop-i : goal.invariant-loop-i
invariant-loop-i l = IsGoodTo l.h l.i
