use Rattle.std.proofs.Common.{◌≡◌, None, take}
use Rattle.dtx_model.specs.Words.{past_of}
use Rattle.outcome_reasons.specs.Opens.{blocking}
use Rattle.outcome_reasons.specs.First.{first_of}
use Rattle.outcome_reasons.proofs.opens.first_blocking.Given as goal

abbrev pub invariant-loop-i : goal.invariant-loop-i
invariant-loop-i l = first_of (λ past x. blocking (past_of l.h) x) (past_of (take l.i l.h)) ≡ None
