use Rattle.std.proofs.Common.{◌∙◌, ◌&&◌, not, ap}
use Rattle.dtx_model.specs.Half.{Half}
use Rattle.dtx_model.specs.Replies.{due_of}
use Rattle.dtx_model.specs.Words.{past_of}
use Rattle.dtx_model.specs.World.{World, half}
use Rattle.local_half.specs.Half.{fits_due}
use Rattle.tx_world.specs.OwnCalls.{may_reply_alone}
use Rattle.tx_world.specs.State.{TxState}
use Rattle.tx_world.specs.Stepping.{is_to_promote}
use Rattle.tx_world.proofs.Onward.{half_is}
use Rattle.tx_world.proofs.world.TxWorld.may_reply_alone.Goals as goal

pub returns : goal.returns
returns c =
    let i = c.self.inside in
    let w : World = record { calls = past_of i.calls.items; past = i.history.past } in
    c.may_reply_alone.ensures
    ∙ ap (λ b. b && not (is_to_promote c.due_of.result)) c.fits.ensures
    ∙ ap (λ o. fits_due c.args.r (due_of i.half.half.seen c.args.e.value) && not (is_to_promote o)) c.due_of.ensures
    ∙ ap (λ (h : Half). may_reply_alone c.args.r (due_of h.seen c.args.e.value)) (half_is i.transaction w i.half i.core c.self.invariant.kept)
    ∙ ap (λ (x : TxState). may_reply_alone c.args.r (due_of (half x.world).seen c.args.e.value)) c.self.view_is
