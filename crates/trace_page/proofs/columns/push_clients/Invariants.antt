use Rattle.std.proofs.Common.{◌≡◌, ◌++◌, take}
use Rattle.dtx_model.specs.Words.{past_of}
use Rattle.trace_page.specs.Columns.{clients_text}
use Rattle.trace_page.proofs.columns.push_clients.Given as goal

abbrev pub invariant-loop-a : goal.invariant-loop-a
invariant-loop-a l = l.text.items ≡ l.fn.text.items ++ clients_text l.l (past_of l.h) l.foot (past_of (take l.a-index l.clients))
