use Rattle.std.proofs.Common.{◌≡◌, ◌++◌, take}
use Rattle.dtx_model.specs.Words.{past_of}
use Rattle.trace_page.specs.Columns.{enlistments_text}
use Rattle.trace_page.proofs.columns.push_enlistments.Given as goal

abbrev pub invariant-loop-e : goal.invariant-loop-e
invariant-loop-e l = l.text.items ≡ l.fn.text.items ++ enlistments_text l.l (past_of l.h) l.foot (past_of (take l.e-index l.enlistments))
