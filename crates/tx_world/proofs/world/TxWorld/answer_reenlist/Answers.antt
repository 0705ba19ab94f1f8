use Rattle.std.proofs.Common.{◌∙◌, refl, ap}
use Rattle.dtx_values.specs.declared.call.Call.TheVariants.{Reenlist}
use Rattle.dtx_values.specs.TxIds.{number_of}
use Rattle.dtx_model.specs.Answers.{if_begun}
use Rattle.dtx_model.specs.Words.{past_of}
use Rattle.dtx_model.specs.World.{World, answer_at}
use Rattle.tx_world.specs.State.{TxState}
use Rattle.tx_world.proofs.Reenlisting.{handed_in, reenlist_is}
use Rattle.tx_world.proofs.world.TxWorld.answer_reenlist.Goals as goal

pub returns : goal.returns
returns c m =
    let i = c.self.inside in
    let w : World = record { calls = past_of i.calls.items; past = i.history.past } in
    let id = c.identifier-wanted.result in
    let rm = c.manager_of.result in
    let read = handed_in i.transaction id rm c.args.e c.write_info-info.result c.identifier-wanted.ensures.identifier c.write_info-info.ensures in
    reenlist_is i.transaction w i.half i.core c.args.e m id rm c.entries.result.now.items c.check.result c.if_begun.result c.self.invariant.kept
    (c.if_begun.ensures ∙ ap (if_begun i.half.half.seen.limit) c.returned.ensures) (c.check.ensures.answered (record { id = id; rm = rm; enl = c.args.e }) read refl) c.entries.ensures
    ∙ ap (λ (x : TxState). answer_at (number_of x.transaction) x.world (Reenlist c.args.e) m) c.self.view_is
