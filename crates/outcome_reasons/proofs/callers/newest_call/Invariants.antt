use Rattle.std.proofs.Common.{◌≡◌, take}
use Rattle.dtx_model.specs.Words.{past_of}
use Rattle.outcome_reasons.specs.Moments.{caller}
use Rattle.outcome_reasons.proofs.callers.newest_call.Given as goal

abbrev pub invariant-loop-x : goal.invariant-loop-x
invariant-loop-x l = l.newest ≡ caller (past_of (take l.x-index l.h))
