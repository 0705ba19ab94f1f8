use Rattle.std.proofs.Common.{◌≡◌, None, take}
use Rattle.dtx_model.specs.Words.{past_of}
use Rattle.outcome_reasons.specs.Commits.{evident}
use Rattle.outcome_reasons.specs.First.{first_of}
use Rattle.outcome_reasons.proofs.commits.first_evidence.Given as goal

abbrev pub invariant-loop-i : goal.invariant-loop-i
invariant-loop-i l = first_of evident (past_of (take l.i l.h)) ≡ None
