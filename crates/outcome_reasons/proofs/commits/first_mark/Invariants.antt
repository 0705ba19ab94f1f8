use Rattle.std.proofs.Common.{◌≡◌, false, take}
use Rattle.dtx_model.specs.Words.{has, past_of}
use Rattle.outcome_reasons.specs.Commits.{is_mark}
use Rattle.outcome_reasons.proofs.commits.first_mark.Given as goal

abbrev pub invariant-loop-i : goal.invariant-loop-i
invariant-loop-i l = has is_mark (past_of (take l.i l.h)) ≡ false
