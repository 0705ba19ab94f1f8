use Rattle.std.proofs.Common.{◌≡◌, ◌==◌, [], take, if◌then◌else◌}
use Rattle.dtx_values.specs.declared.number.ActorNo.{ActorNo}
use Rattle.dtx_values.specs.declared.number.TxNo.{TxNo}
use Rattle.dtx_model.specs.Words.{all_of}
use Rattle.script_calls.specs.Due.{due_at}
use Rattle.script_calls.specs.Rows.{row_at, with_calls}
use Rattle.script_calls.specs.RowsOf.{rows_of}
use Rattle.script_calls.specs.Scoped.{rollbacks}
use Rattle.script_calls.proofs.calls.add_rollbacks.Given as goal

abbrev pub invariant-loop-t : goal.invariant-loop-t
invariant-loop-t l = (u : TxNo) (b : ActorNo)
    → row_at b (rows_of u l.rows) ≡ with_calls (if b.value == l.a.value then all_of (due_at u.value l.n) (rollbacks (take l.t-index l.rolled)) else []) (row_at b (rows_of u l.initial.rows))
