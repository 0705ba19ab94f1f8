use Rattle.std.proofs.Common.{◌≡◌, None, take}
use Rattle.dtx_model.specs.Words.{past_of}
use Rattle.outcome_reasons.specs.Promotions.{promoting}
use Rattle.outcome_reasons.specs.First.{first_of}
use Rattle.outcome_reasons.proofs.promotions.first_promoting.Given as goal

abbrev pub invariant-loop-i : goal.invariant-loop-i
invariant-loop-i l = first_of (promoting l.lines (past_of l.numbers)) (past_of (take l.i l.h)) ≡ None
