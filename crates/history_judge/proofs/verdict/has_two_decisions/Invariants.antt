use Rattle.std.proofs.Common.{◌≡◌, false, take}
use Rattle.dtx_model.specs.Words.{ever, past_of}
use Rattle.dtx_model.specs.Outcome.{is_decided_again}
use Rattle.history_judge.proofs.verdict.has_two_decisions.Given as goal

abbrev pub invariant-loop-i : goal.invariant-loop-i
invariant-loop-i l = ever is_decided_again (past_of (take l.i l.h)) ≡ false
