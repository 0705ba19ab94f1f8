use Rattle.std.proofs.Common.{◌≡◌, ◌≤◌, length, false, not, refl, ap, sym, ◌∙◌, subst}
use Rattle.dtx_model.specs.Caused.{MayAnswer}
use Rattle.dtx_values.specs.TxIds.{number_of}
use Rattle.dtx_model.specs.Steps.{Calls, entered}
use Rattle.dtx_model.specs.Words.{past_of}
use Rattle.dtx_model.specs.World.{answer_at}
use Rattle.world_parts.specs.Entering.{is_unlinked}
use Rattle.tx_world.specs.State.{TxState, may_enter}
use Rattle.tx_world.proofs.Calling.{answer_there, call_ready, free_there, with_call}
use Rattle.tx_world.proofs.Living.{near_done, near_whole}
use Rattle.tx_world.proofs.Written.{Ready, world_of}
use Rattle.world_parts.specs.Sending.{is_sent}
use Rattle.dtx_model.specs.Words.{has}
use Rattle.world_parts.specs.Sending.{may_promote}
use Rattle.dtx_model.proofs.Bools.{or_first, or_second}
use Rattle.tx_world.proofs.Sending.{call_calm, may_write_near, unsent_there}
use Rattle.tx_world.proofs.Few.{few_there}
use Rattle.tx_world.proofs.world.TxWorld.enter_local.Goals.{After-entries}
use Rattle.tx_world.proofs.world.TxWorld.enter_local.Goals as goal

-- what the call writes is ready
ready : (c : After-entries)
    → Ready c.self.inside.transaction (world_of c.self.inside.calls.items c.self.inside.history.past) (Calls c.args.line c.args.actor c.args.c.now c.args.done) c.answer_call-answer.new.half c.self.inside.core
    c.reserve_for.new.self.past c.entries.result.now
ready c =
    let i = c.self.inside in
    let may = ap (λ (x : TxState). may_enter x.world c.args.line c.args.c.now) c.self.view_is ∙ c.requires.enters in
    let answers = subst (λ (x : TxState). MayAnswer (number_of x.transaction) x.world c.args.c.now c.args.done) (sym c.self.view_is) c.requires.answers in
    let alone = ap (λ (x : TxState). is_unlinked x.world c.args.c.now) c.self.view_is ∙ c.requires.unlinked in
    let told = c.answer_call-answer.ensures in
    call_ready i.transaction (world_of i.calls.items i.history.past) i.half c.answer_call-answer.new.half i.core c.args.line c.args.actor c.args.c.now c.args.done c.clear.new.self c.answer_call-answer.new.out
    c.reserve_for.new.self.past c.entries.result.now c.self.invariant.kept c.in_ok-reserve_for.ensures.same c.requires.near alone may answers told.state c.entries.ensures.value told.out c.clear.ensures

-- the call is the newest
calls : (c : After-entries) → past_of c.push_reserved.new.self.items ≡ entered (Calls c.args.line c.args.actor c.args.c.now c.args.done) (past_of c.self.inside.calls.items)
calls c =
    with_call c.self.inside.calls.items c.reserve_call.new.calls.items c.push_reserved.new.self.items (record { line = c.args.line; actor = c.args.actor; call = c.args.c.now }) c.push_reserved.ensures.items
    c.in_ok-reserve_call.ensures.items

pub answer_call-answer-requires-clause-new : goal.answer_call-answer-requires-clause-new
answer_call-answer-requires-clause-new c =
    let i = c.self.inside in
    free_there i.transaction (world_of i.calls.items i.history.past) i.half i.core c.args.line c.args.c.now c.self.invariant.kept
    (ap (λ (x : TxState). may_enter x.world c.args.line c.args.c.now) c.self.view_is ∙ c.requires.enters)

pub returns-clause-answer : goal.returns-clause-answer
returns-clause-answer c =
    let i = c.self.inside in
    c.answer_call-answer.ensures.answer
    ∙ answer_there i.transaction (world_of i.calls.items i.history.past) i.half i.core c.args.c.now c.args.done c.self.invariant.kept c.requires.near
    ∙ ap (λ (x : TxState). answer_at (number_of x.transaction) x.world c.args.c.now c.args.done) c.self.view_is

-- it sends nothing where it may not begin a promotion, and none began; and it is short then
short : (c : After-entries) → c.may_send-sends.result ≡ false → (has is_sent c.entries.result.now ≡ false) × (length c.entries.result.now ≤ 4)
short c n =
    let u = c.is_unpromoted.result in
    let may = may_promote c.args.c.now in
    let kept = c.self.invariant.kept in
    let none = sym c.may_send-sends.ensures ∙ n in
    let calm =
    call_calm (number_of c.self.inside.transaction) (world_of c.self.inside.calls.items c.self.inside.history.past) c.args.line c.args.actor c.args.c.now c.args.done (or_first may (not u) none) in
    let local = or_second may (not u) none in
    (unsent_there u kept (ready c) calm c.is_unpromoted.ensures local, few_there u kept (ready c) c.in_ok-reserve_for.ensures.same calm c.is_unpromoted.ensures local)

pub write_near-begins-requires : goal.write_near-begins-requires
write_near-begins-requires c =
    may_write_near c.may_send-sends.result c.reserve_for.new.self (ready c) c.entries.ensures.few (short c) c.in_ok-reserve_for.ensures.room c.in_ok-reserve_for.ensures.sends

pub invariant_of-self-2 : goal.invariant_of-self-2
invariant_of-self-2 c =
    let b = (goal.at.invariant_of-self-2 c).After-entries in
    let e = c.write_near-begins.ensures in
    near_whole c.args.up _ (ready b) c.self.invariant refl (calls b) e.past e.core c.live.ensures

pub returns-clause-done : goal.returns-clause-done
returns-clause-done c =
    let b = (goal.at.returns-clause-done c).After-entries in
    let e = c.write_near-begins.ensures in
    near_done c.self.inside.at_log c.live.new.at_log c.args.self.now c.args.up c.write_near-begins.result c.args.life (ready b) refl (calls b) e.past c.live.ensures
    e.begins c.self.view_is
