use Rattle.std.proofs.Common.{◌∙◌, ap, not}
use Rattle.dtx_model.specs.Outcome.{is_empty}
use Rattle.dtx_model.specs.Words.{past_of}
use Rattle.dtx_model.specs.World.{World, open_ones}
use Rattle.tx_world.specs.State.{TxState}
use Rattle.tx_world.proofs.Leaving.{some_open, rows_promotable}
use Rattle.tx_world.proofs.world.TxWorld.has_open.Goals as goal

pub returns : goal.returns
returns c =
    let i = c.self.inside in
    let w : World = record { calls = past_of i.calls.items; past = i.history.past } in
    c.is_any_open.ensures
    ∙ some_open w c.args.e c.is_promotable_row.result c.is_open.result c.is_open-2.result c.is_open-3.result (rows_promotable i.transaction w i.half i.core c.args.e c.rows.result.now c.is_promotable_row.result c.self.invariant.kept c.rows.ensures.rows c.is_promotable_row.ensures)
    c.is_open.ensures c.is_open-2.ensures c.is_open-3.ensures
    ∙ ap (λ (x : TxState). not (is_empty (open_ones x.world c.args.e))) c.self.view_is
