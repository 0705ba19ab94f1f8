use Rattle.std.proofs.Common.{◌≡◌, List, ap, refl, sym, ◌∙◌, ◌∷◌, [], subst}
use Rattle.dtx_values.specs.declared.entry.Entry.{Entry}
use Rattle.dtx_values.specs.TxIds.{number_of}
use Rattle.dtx_values.specs.declared.entry.Entry.TheVariants.{Called}
use Rattle.dtx_model.specs.Words.{onto, past_of}
use Rattle.dtx_model.specs.Caused.{MayAnswer}
use Rattle.dtx_model.specs.World.{answer_at}
use Rattle.dtx_model.specs.Steps.{Calls, entered}
use Rattle.world_laws.specs.Carried.{are_sendable}
use Rattle.tx_world.specs.State.{TxState, may_enter}
use Rattle.tx_world.proofs.Calling.{with_call}
use Rattle.tx_world.proofs.CallsOn.{alone_ready}
use Rattle.tx_world.proofs.Linking.{Linked}
use Rattle.tx_world.proofs.Written.{stopped_is, world_of}
use Rattle.tx_world.proofs.Silently.{linked_written, written_done, written_whole}
use Rattle.tx_world.proofs.world.TxWorld.write_alone.Goals.{After-is_stopped}
use Rattle.tx_world.proofs.world.TxWorld.write_alone.Goals as goal

-- the call is ready to be written
ready : (c : After-is_stopped)
    → Linked c.self.inside.transaction (world_of c.self.inside.calls.items c.self.inside.history.past) (Calls c.args.line c.args.actor c.args.c.now c.args.done) c.self.inside.half c.self.inside.core
    (Called c.args.line c.args.actor c.args.answer ∷ [])
ready c =
    let i = c.self.inside in
    let d = c.args.c.now in
    let x = c.args.answer in
    let may = ap (λ (y : TxState). may_enter y.world c.args.line d) c.self.view_is ∙ c.requires.enters in
    let answers = subst (λ (y : TxState). MayAnswer (number_of y.transaction) y.world d c.args.done) (sym c.self.view_is) c.requires.answers in
    let is = subst (λ (y : TxState). x ≡ answer_at (number_of y.transaction) y.world d c.args.done) (sym c.self.view_is) c.requires.answer in
    alone_ready i.transaction (world_of i.calls.items i.history.past) i.half i.core c.args.line c.args.actor d c.args.done x c.self.invariant.kept may answers is c.requires.alone

-- the call is the newest
calls : (c : After-is_stopped) → past_of c.push_reserved.new.self.items ≡ entered (Calls c.args.line c.args.actor c.args.c.now c.args.done) (past_of c.self.inside.calls.items)
calls c =
    with_call c.self.inside.calls.items c.reserve_call.new.calls.items c.push_reserved.new.self.items (record { line = c.args.line; actor = c.args.actor; call = c.args.c.now }) c.push_reserved.ensures.items
    c.in_ok-reserve_call.ensures.items

-- and its entry comes onto the past
past : (c : After-is_stopped) → onto c.reserve_for.new.self.past (Called c.args.line c.args.actor c.args.answer ∷ []) ≡ onto c.self.inside.history.past (Called c.args.line c.args.actor c.args.answer ∷ [])
past c = ap (λ (h : List Entry). onto h (Called c.args.line c.args.actor c.args.answer ∷ [])) c.in_ok-reserve_for.ensures.same

pub write-requires-clause-sendable : goal.write-requires-clause-sendable
write-requires-clause-sendable c = ap (λ (h : List Entry). are_sendable (onto h (Called c.args.line c.args.actor c.args.answer ∷ []))) c.in_ok-reserve_for.ensures.same ∙ (ready c).sendable

pub write-requires-clause-stopped : goal.write-requires-clause-stopped
write-requires-clause-stopped c =
    c.is_stopped.ensures ∙ stopped_is c.self.invariant.kept c.in_ok-reserve_for.ensures.same

pub invariant_of-self-2 : goal.invariant_of-self-2
invariant_of-self-2 c =
    let b = (goal.at.invariant_of-self-2 c).After-is_stopped in
    written_whole (linked_written (ready b) refl (calls b) (c.write.ensures.past ∙ past b)) c.self.invariant

pub returns-clause-done : goal.returns-clause-done
returns-clause-done c =
    let b = (goal.at.returns-clause-done c).After-is_stopped in
    written_done c.self.inside.at_log c.args.self.now (linked_written (ready b) refl (calls b) (c.write.ensures.past ∙ past b)) c.self.view_is
