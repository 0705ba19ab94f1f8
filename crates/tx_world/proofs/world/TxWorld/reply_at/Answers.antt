use Rattle.std.proofs.Common.{◌≡◌, ◌≤◌, length, false, not, refl, ap, sym, ◌∙◌}
use Rattle.dtx_model.specs.Half.{Half}
use Rattle.dtx_values.specs.TxIds.{number_of}
use Rattle.dtx_model.specs.Replies.{due_of}
use Rattle.dtx_model.specs.Steps.{Replies}
use Rattle.dtx_model.specs.World.{half}
use Rattle.local_half.specs.Half.{fits_due}
use Rattle.tx_world.specs.State.{TxState}
use Rattle.tx_world.proofs.Living.{near_done, near_whole}
use Rattle.tx_world.proofs.Onward.{half_is}
use Rattle.tx_world.proofs.Written.{Ready, reply_ready, world_of}
use Rattle.tx_world.proofs.Naming.{named_near}
use Rattle.world_parts.specs.Sending.{is_sent}
use Rattle.dtx_model.specs.Words.{has}
use Rattle.tx_world.proofs.Sending.{may_write_near, reply_calm, unsent_there}
use Rattle.tx_world.proofs.Few.{few_there}
use Rattle.tx_world.proofs.world.TxWorld.reply_at.Goals.{After-entries}
use Rattle.tx_world.proofs.world.TxWorld.reply_at.Goals as goal

-- what the reply writes is ready
ready : (c : After-entries)
    → Ready c.self.inside.transaction (world_of c.self.inside.calls.items c.self.inside.history.past) (Replies c.args.e c.args.r) c.reply.new.self c.self.inside.core c.reserve_for.new.self.past c.entries.result.now
ready c =
    let i = c.self.inside in
    let w = world_of i.calls.items i.history.past in
    let was = c.if-not-reply.false in
    let fit = ap (λ (x : Half). fits_due c.args.r (due_of x.seen c.args.e.value)) (half_is i.transaction w i.half i.core c.self.invariant.kept ∙ ap (λ (x : TxState). half x.world) c.self.view_is) ∙ c.requires.fits in
    reply_ready i.transaction w i.half c.reply.new.self i.core c.args.e c.args.r c.clear.new.self c.reply.new.out c.reserve_for.new.self.past c.entries.result.now c.self.invariant.kept c.in_ok-reserve_for.ensures.same
    (sym c.reply.ensures.due ∙ was) fit (c.reply.ensures.state was) c.entries.ensures.value (c.reply.ensures.out was) c.clear.ensures

-- it sends nothing where no promotion began, and is short then
short : (c : After-entries) → not c.is_unpromoted-sends.result ≡ false → (has is_sent c.entries.result.now ≡ false) × (length c.entries.result.now ≤ 4)
short c n =
    let u = c.is_unpromoted-sends.result in
    let kept = c.self.invariant.kept in
    let calm = reply_calm (number_of c.self.inside.transaction) (world_of c.self.inside.calls.items c.self.inside.history.past) c.args.e c.args.r in
    (unsent_there u kept (ready c) calm c.is_unpromoted-sends.ensures n, few_there u kept (ready c) c.in_ok-reserve_for.ensures.same calm c.is_unpromoted-sends.ensures n)

pub write_near-begins-requires : goal.write_near-begins-requires
write_near-begins-requires c =
    may_write_near (not c.is_unpromoted-sends.result) c.reserve_for.new.self (ready c) c.entries.ensures.few (short c) c.in_ok-reserve_for.ensures.room c.in_ok-reserve_for.ensures.sends

pub invariant_of-self-2 : goal.invariant_of-self-2
invariant_of-self-2 c =
    let e = c.write_near-begins.ensures in
    near_whole c.args.up _ (ready (goal.at.invariant_of-self-2 c).After-entries) c.self.invariant refl refl e.past e.core c.live.ensures

pub returns-clause-done : goal.returns-clause-done
returns-clause-done c d =
    let e = c.write_near-begins.ensures in
    near_done c.self.inside.at_log c.live.new.at_log c.args.self.now c.args.up c.write_near-begins.result c.args.life (ready (goal.at.returns-clause-done c).After-entries) refl refl e.past c.live.ensures
    e.begins c.self.view_is

-- the record that is kept names who said PREPARED
pub returns-clause-named : goal.returns-clause-named
returns-clause-named c = λ n.
    let e = c.write_near-begins.ensures in
    let r = ready (goal.at.returns-clause-named c).After-entries in
    let whole = near_whole c.args.up _ r c.self.invariant refl refl e.past e.core c.live.ensures in
    let done = near_done c.self.inside.at_log c.live.new.at_log c.args.self.now c.args.up c.write_near-begins.result c.args.life r refl refl e.past c.live.ensures e.begins c.self.view_is in
    named_near c.args.up c.args.life (Replies c.args.e c.args.r) c.self.inside.at_log c.live.new.at_log c.args.self.now c.self.invariant whole refl c.self.view_is done n
