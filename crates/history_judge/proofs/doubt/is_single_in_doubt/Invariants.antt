use Rattle.std.proofs.Common.{◌≡◌, false, take}
use Rattle.dtx_model.specs.Words.{ever, past_of}
use Rattle.dtx_model.specs.Outcome.{is_lost_single}
use Rattle.history_judge.proofs.doubt.is_single_in_doubt.Given as goal

abbrev pub invariant-loop-i : goal.invariant-loop-i
invariant-loop-i l = ever is_lost_single (past_of (take l.i l.h)) ≡ false
