use Rattle.std.proofs.Common.{◌≡◌, ◌++◌, take}
use Rattle.dtx_model.specs.Words.{past_of}
use Rattle.trace_page.specs.Drawn.{rows_text}
use Rattle.trace_page.proofs.drawn.push_rows.Given as goal

abbrev pub invariant-loop-i : goal.invariant-loop-i
invariant-loop-i l = l.text.items ≡ l.fn.text.items ++ rows_text l.lines l.l (past_of l.came) l.rows.numbers (past_of (take l.i l.h))
