use Rattle.std.proofs.Common.{◌≡◌, take}
use Rattle.dtx_model.specs.Words.{past_of}
use Rattle.outcome_reasons.specs.Roots.{root}
use Rattle.outcome_reasons.proofs.ends.root.Given as goal

abbrev pub invariant-loop-i : goal.invariant-loop-i
invariant-loop-i l = l.found ≡ root (past_of l.numbers) l.c (past_of (take l.i l.h))
