use Rattle.std.proofs.Common.{◌≡◌, false, take}
use Rattle.dtx_model.specs.Words.{ever, past_of}
use Rattle.dtx_model.specs.Outcome.{is_first_veto}
use Rattle.history_judge.proofs.veto.is_vetoed.Given as goal

abbrev pub invariant-loop-i : goal.invariant-loop-i
invariant-loop-i l = ever is_first_veto (past_of (take l.i l.h)) ≡ false
