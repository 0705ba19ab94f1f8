use Rattle.std.proofs.Common.{◌≡◌, take}
use Rattle.dtx_model.specs.Words.{past_of}
use Rattle.outcome_reasons.specs.Histories.{all_histories}
use Rattle.outcome_reasons.proofs.histories.histories_of.Given as goal

abbrev pub invariant-loop-i : goal.invariant-loop-i
invariant-loop-i l = l.histories.items ≡ all_histories (past_of (take l.i l.t))
