use Rattle.std.proofs.Common.{◌≡◌, take}
use Rattle.dtx_model.specs.Words.{past_of}
use Rattle.outcome_reasons.specs.Whys.{nested_lines}
use Rattle.outcome_reasons.proofs.histories.nested_lines.Given as goal

abbrev pub invariant-loop-i : goal.invariant-loop-i
invariant-loop-i l = past_of l.nested.items ≡ nested_lines (past_of (take l.i l.t))
