use Rattle.std.proofs.Common.{◌∙◌, ap}
use Rattle.dtx_values.specs.declared.call.Call.TheVariants.{Gone}
use Rattle.dtx_values.specs.TxIds.{number_of}
use Rattle.dtx_model.specs.Answers.{if_begun}
use Rattle.dtx_model.specs.Words.{past_of}
use Rattle.dtx_model.specs.World.{World, answer_at}
use Rattle.tx_world.specs.State.{TxState}
use Rattle.tx_world.proofs.Leaving.{gone_is}
use Rattle.tx_world.proofs.world.TxWorld.answer_gone.Goals as goal

pub returns : goal.returns
returns c m =
    let i = c.self.inside in
    let w : World = record { calls = past_of i.calls.items; past = i.history.past } in
    gone_is i.transaction w i.half i.core c.args.e m c.if_begun.result c.self.invariant.kept (c.if_begun.ensures ∙ ap (if_begun i.half.half.seen.limit) c.gone_answer.ensures)
    ∙ ap (λ (x : TxState). answer_at (number_of x.transaction) x.world (Gone c.args.e) m) c.self.view_is
