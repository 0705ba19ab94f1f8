use Rattle.std.proofs.Common.{◌≡◌, take}
use Rattle.dtx_values.specs.declared.number.ActorNo.{ActorNo}
use Rattle.dtx_values.specs.declared.number.TxNo.{TxNo}
use Rattle.dtx_model.specs.Words.{past_of}
use Rattle.script_calls.specs.Due.{calls_until}
use Rattle.script_calls.specs.Rows.{row_at, unentered}
use Rattle.script_calls.specs.RowsOf.{rows_of}
use Rattle.script_calls.specs.Scoped.{AreOpen}
use Rattle.script_calls.proofs.calls.fill.Given as goal

abbrev pub invariant-loop-l : goal.invariant-loop-l
invariant-loop-l l = record {
  count : l.n ≡ l.l-index;
  open_at : AreOpen l.contexts (past_of (take l.l-index l.lines));
  calls : (t : TxNo) (a : ActorNo) → row_at a (rows_of t l.rows) ≡ unentered (calls_until l.plans a.value t.value (past_of (take l.l-index l.lines)));
}
