use Rattle.std.proofs.Common.{◌≡◌, None, take}
use Rattle.dtx_model.specs.Words.{past_of}
use Rattle.outcome_reasons.specs.Vetoes.{vetoing}
use Rattle.outcome_reasons.specs.First.{first_of}
use Rattle.outcome_reasons.proofs.vetoes.first_veto.Given as goal

abbrev pub invariant-loop-i : goal.invariant-loop-i
invariant-loop-i l = first_of (vetoing l.lines (past_of l.nested) (past_of l.numbers)) (past_of (take l.i l.h)) ≡ None
