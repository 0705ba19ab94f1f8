use Rattle.std.proofs.Common.{◌≡◌, ℕ, List, ◌∷◌, [], ap, refl, ◌∙◌}
use Rattle.dtx_values.specs.declared.call.Call.TheVariants.{Lose}
use Rattle.dtx_values.specs.TxIds.{number_of}
use Rattle.dtx_values.specs.declared.entry.Answer.TheVariants.{Fine}
use Rattle.dtx_values.specs.declared.entry.Entry.{Entry}
use Rattle.dtx_values.specs.declared.entry.Entry.TheVariants.{Called}
use Rattle.dtx_model.specs.Wires.{is_open_wire}
use Rattle.dtx_model.specs.Words.{onto, past_of}
use Rattle.dtx_model.specs.Steps.{Calls, entered}
use Rattle.dtx_model.specs.World.{answer_at, cut}
use Rattle.world_laws.specs.Carried.{are_sendable}
use Rattle.tx_world.specs.State.{TxState, may_enter}
use Rattle.tx_world.proofs.Calling.{with_call}
use Rattle.tx_world.proofs.Linking.{Linked, after_call, lost, lost_open, lost_past}
use Rattle.tx_world.proofs.Silently.{linked_written, written_done, written_whole}
use Rattle.tx_world.proofs.Written.{stopped_is, world_of}
use Rattle.tx_world.proofs.world.TxWorld.enter_lost.Goals.{After-is_stopped, After-lose}
use Rattle.tx_world.proofs.world.TxWorld.enter_lost.Goals as goal

-- the loss is ready to be written, whatever number is given with it
ready : (c : After-is_stopped) (m : ℕ)
    → Linked c.self.inside.transaction (world_of c.self.inside.calls.items c.self.inside.history.past) (Calls c.args.line c.args.actor (Lose c.args.u c.args.c c.args.up c.args.down) m) c.self.inside.half
    c.self.inside.core (Called c.args.line c.args.actor Fine ∷ cut c.self.inside.history.past c.args.c c.args.up c.args.down ∷ [])
ready c m =
    let i = c.self.inside in
    let may = ap (λ (x : TxState). may_enter x.world c.args.line (Lose c.args.u c.args.c c.args.up c.args.down)) c.self.view_is ∙ c.requires.enters in
    let fine = ap (λ (x : TxState). answer_at (number_of x.transaction) x.world (Lose c.args.u c.args.c c.args.up c.args.down) 0) c.self.view_is ∙ c.requires.fine in
    lost i.transaction (world_of i.calls.items i.history.past) i.half i.core c.args.line c.args.actor c.args.u c.args.c c.args.up c.args.down m c.self.invariant.kept may fine

-- the call is the newest
calls : (c : After-is_stopped) (m : ℕ)
    → past_of c.push_reserved.new.self.items ≡ entered (Calls c.args.line c.args.actor (Lose c.args.u c.args.c c.args.up c.args.down) m) (past_of c.self.inside.calls.items)
calls c m =
    with_call c.self.inside.calls.items c.reserve_call.new.calls.items c.push_reserved.new.self.items (record { line = c.args.line; actor = c.args.actor; call = Lose c.args.u c.args.c c.args.up c.args.down })
    c.push_reserved.ensures.items c.in_ok-reserve_call.ensures.items

-- and its entry and the cut come onto the past
past : (c : After-lose) → c.lose.new.self.past ≡ onto c.self.inside.history.past (Called c.args.line c.args.actor Fine ∷ cut c.self.inside.history.past c.args.c c.args.up c.args.down ∷ [])
past c =
    let h = c.self.inside.history.past in
    let wrote : c.write.new.self.past ≡ Called c.args.line c.args.actor Fine ∷ h = c.write.ensures.past ∙ ap (λ (p : List Entry). Called c.args.line c.args.actor Fine ∷ p) c.in_ok-reserve.ensures.same in
    let opened =
    c.lose.ensures.open ∙ ap (is_open_wire c.args.c) wrote ∙ after_call c.args.line c.args.actor Fine c.args.c h
    ∙ lost_open (number_of c.self.inside.transaction) (world_of c.self.inside.calls.items h) c.args.u c.args.c c.args.up c.args.down 0
    (ap (λ (x : TxState). answer_at (number_of x.transaction) x.world (Lose c.args.u c.args.c c.args.up c.args.down) 0) c.self.view_is ∙ c.requires.fine) in
    lost_past c.args.line c.args.actor c.args.c c.args.up c.args.down c.from.result c.from-2.result h c.write.new.self.past c.lose.new.self.past wrote c.from.ensures c.from-2.ensures (c.lose.ensures.cut opened)

pub write-requires-clause-sendable : goal.write-requires-clause-sendable
write-requires-clause-sendable c = ap are_sendable c.in_ok-reserve.ensures.same ∙ (ready c 0).sendable

pub write-requires-clause-stopped : goal.write-requires-clause-stopped
write-requires-clause-stopped c =
    c.is_stopped.ensures ∙ stopped_is c.self.invariant.kept c.in_ok-reserve.ensures.same

pub invariant_of-self-2 : goal.invariant_of-self-2
invariant_of-self-2 c =
    let b = (goal.at.invariant_of-self-2 c).After-is_stopped in
    written_whole (linked_written (ready b 0) refl (calls b 0) (past c)) c.self.invariant

pub returns-clause-done : goal.returns-clause-done
returns-clause-done c m =
    let b = (goal.at.returns-clause-done c).After-is_stopped in
    written_done c.self.inside.at_log c.args.self.now (linked_written (ready b m) refl (calls b m) (past c)) c.self.view_is
