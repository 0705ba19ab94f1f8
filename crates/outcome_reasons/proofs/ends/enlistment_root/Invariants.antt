use Rattle.std.proofs.Common.{◌≡◌, take}
use Rattle.dtx_values.specs.declared.message.Conn.TheVariants.{Enl}
use Rattle.dtx_model.specs.Words.{past_of}
use Rattle.outcome_reasons.specs.Doubts.{is_its_end}
use Rattle.outcome_reasons.specs.Roots.{end_root}
use Rattle.outcome_reasons.proofs.ends.enlistment_root.Given as goal

abbrev pub invariant-loop-i : goal.invariant-loop-i
invariant-loop-i l = l.found ≡ end_root (past_of l.numbers) (Enl l.e) (is_its_end l.e) (past_of (take l.i l.h))
