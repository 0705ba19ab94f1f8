use Rattle.std.proofs.Common.{◌∙◌, ap}
use Rattle.dtx_model.specs.Answers.{await_answer, if_begun}
use Rattle.dtx_values.specs.TxIds.{number_of}
use Rattle.dtx_model.specs.World.{answer_at}
use Rattle.tx_world.specs.State.{TxState}
use Rattle.tx_world.proofs.CallsOn.{await_is, did_is}
use Rattle.tx_world.proofs.Written.{world_of}
use Rattle.tx_world.proofs.world.TxWorld.answer_far.Goals as goal

pub returns-in-Await : goal.returns-in-Await
returns-in-Await c =
    let i = c.self.inside in
    let is = c.if_begun.ensures ∙ ap (if_begun i.half.half.seen.limit) (c.await_answer.ensures ∙ ap await_answer c.told_client.ensures) in
    await_is i.transaction (world_of i.calls.items i.history.past) i.half i.core c.args.c.now _ c.args.done c.if_begun.result c.self.invariant.kept c.in-Await.is is
    ∙ ap (λ (y : TxState). answer_at (number_of y.transaction) y.world c.args.c.now c.args.done) c.self.view_is

pub returns-in-Do : goal.returns-in-Do
returns-in-Do c =
    let i = c.self.inside in
    did_is i.transaction (world_of i.calls.items i.history.past) i.half i.core c.args.c.now _ _ _ c.args.done c.if_begun-in-Do.result c.self.invariant.kept c.in-Do.is c.if_begun-in-Do.ensures
    ∙ ap (λ (y : TxState). answer_at (number_of y.transaction) y.world c.args.c.now c.args.done) c.self.view_is
