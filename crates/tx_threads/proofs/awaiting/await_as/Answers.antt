use Rattle.std.proofs.Common.{◌≡◌, subst}
use Rattle.dtx_values.specs.TxIds.{first_id, number_of}
use Rattle.dtx_values.specs.declared.tx_id.TxId.{TxId}
use Rattle.tx_cells.specs.Entering.{MayTurn}
use Rattle.tx_threads.proofs.awaiting.await_as.Goals as goal

pub returns-then-ne-clause-called : goal.returns-then-ne-clause-called
returns-then-ne-clause-called g c =
    let of = c.in_ok-is_of.ensures.of in
    let seen = c.deref.ensures in
    let lent = c.deref_mut.ensures.value in
    let same : c.deref_mut.result.now.tx.transaction ≡ first_id c.args.t = cc in
    subst (λ (u : TxId). MayTurn g.N.Run.script (number_of u) c.args.a c.args.line c.in_ok-turned.turned) same c.in_ok-turned.ensures.called
