use Rattle.std.proofs.Common.{subst, sym}
use Rattle.std.specs.Prelude.{IfOk}
use Rattle.dtx_values.specs.TxIds.{number_of}
use Rattle.dtx_values.specs.declared.tx_id.TxId.{TxId}
use Rattle.tx_cells.specs.Entering.{MayTurn}
use Rattle.tx_threads.proofs.calling.enter_of.Goals as goal

pub returns-clause-called : goal.returns-clause-called
returns-clause-called g c =
    subst (λ (u : TxId). IfOk c.enter.result (MayTurn g.N.Run.script (number_of u) c.args.a c.args.line)) (sym c.in_ok-is_of.ensures.of) c.enter.ensures.called
