use Rattle.std.proofs.Common.{◌≡◌, take}
use Rattle.dtx_model.specs.History.{is_still_lost}
use Rattle.dtx_model.specs.Words.{past_of}
use Rattle.outcome_reasons.proofs.opens.is_still_lost.Given as goal

abbrev pub invariant-loop-x : goal.invariant-loop-x
invariant-loop-x l = l.is_lost ≡ is_still_lost l.e.value (past_of (take l.x-index l.h))
