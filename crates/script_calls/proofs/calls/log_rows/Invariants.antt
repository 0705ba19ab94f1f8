use Rattle.std.proofs.Common.{◌≡◌, take}
use Rattle.dtx_values.specs.declared.number.ActorNo.{ActorNo}
use Rattle.dtx_model.specs.Words.{past_of}
use Rattle.script_calls.specs.Due.{log_calls_until}
use Rattle.script_calls.specs.Rows.{row_at, unentered}
use Rattle.script_calls.proofs.calls.log_rows.Given as goal

abbrev pub invariant-loop-l : goal.invariant-loop-l
invariant-loop-l l = (l.n ≡ l.l-index) × ((a : ActorNo) → row_at a l.rows ≡ unentered (log_calls_until a.value (past_of (take l.l-index l.lines))))
