use Rattle.std.proofs.Common.{◌≡◌, None, take}
use Rattle.dtx_model.specs.Words.{past_of}
use Rattle.dtx_model.specs.Learned.{is_first_abort}
use Rattle.outcome_reasons.specs.First.{first_where}
use Rattle.outcome_reasons.proofs.doubts.first_abort.Given as goal

abbrev pub invariant-loop-i : goal.invariant-loop-i
invariant-loop-i l = first_where is_first_abort (past_of (take l.i l.h)) ≡ None
