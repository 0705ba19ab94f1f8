use Rattle.std.proofs.Common.{◌≡◌, ℕ, List, ◌∷◌, [], ap, refl, ◌∙◌}
use Rattle.dtx_values.specs.declared.call.Call.TheVariants.{Recovered}
use Rattle.dtx_values.specs.TxIds.{number_of}
use Rattle.dtx_values.specs.declared.entry.Answer.TheVariants.{Fine}
use Rattle.dtx_values.specs.declared.entry.Entry.{Entry}
use Rattle.dtx_values.specs.declared.entry.Entry.TheVariants.{Called, Recovered as RecoveredEntry}
use Rattle.dtx_model.specs.Words.{onto, past_of}
use Rattle.dtx_model.specs.Steps.{Calls, entered}
use Rattle.dtx_model.specs.World.{answer_at}
use Rattle.world_laws.specs.Carried.{are_sendable}
use Rattle.tx_world.specs.State.{TxState, may_enter}
use Rattle.tx_world.proofs.Calling.{with_call}
use Rattle.tx_world.proofs.Linking.{Linked, recovered}
use Rattle.tx_world.proofs.Silently.{linked_written, written_done, written_whole}
use Rattle.tx_world.proofs.Written.{stopped_is, world_of}
use Rattle.tx_world.proofs.world.TxWorld.enter_recovered.Goals.{After-recovery_over, After-write}
use Rattle.tx_world.proofs.world.TxWorld.enter_recovered.Goals as goal

-- the call is ready to be written, whatever number is given with it
ready : (c : After-recovery_over) (m : ℕ)
    → Linked c.self.inside.transaction (world_of c.self.inside.calls.items c.self.inside.history.past) (Calls c.args.line c.args.actor (Recovered c.args.u c.args.r) m) c.self.inside.half c.recovery_over.new.self
    (Called c.args.line c.args.actor Fine ∷ RecoveredEntry c.args.r ∷ [])
ready c m =
    let i = c.self.inside in
    let may = ap (λ (x : TxState). may_enter x.world c.args.line (Recovered c.args.u c.args.r)) c.self.view_is ∙ c.requires.enters in
    let fine = ap (λ (x : TxState). answer_at (number_of x.transaction) x.world (Recovered c.args.u c.args.r) 0) c.self.view_is ∙ c.requires.fine in
    recovered i.transaction (world_of i.calls.items i.history.past) i.half i.core c.recovery_over.new.self c.args.line c.args.actor c.args.u c.args.r m c.self.invariant.kept may fine c.recovery_over.ensures.transaction
    c.recovery_over.ensures.state

-- it is the newest
calls : (c : After-recovery_over) (m : ℕ) → past_of c.push_reserved.new.self.items ≡ entered (Calls c.args.line c.args.actor (Recovered c.args.u c.args.r) m) (past_of c.self.inside.calls.items)
calls c m =
    with_call c.self.inside.calls.items c.reserve_call.new.calls.items c.push_reserved.new.self.items (record { line = c.args.line; actor = c.args.actor; call = Recovered c.args.u c.args.r }) c.push_reserved.ensures.items
    c.in_ok-reserve_call.ensures.items

-- and its block comes onto the past
past : (c : After-write) → c.write.new.self.past ≡ onto c.self.inside.history.past (Called c.args.line c.args.actor Fine ∷ RecoveredEntry c.args.r ∷ [])
past c = c.write.ensures.past ∙ ap (λ (h : List Entry). onto h (Called c.args.line c.args.actor Fine ∷ RecoveredEntry c.args.r ∷ [])) c.in_ok-reserve.ensures.same

pub write-requires-clause-sendable : goal.write-requires-clause-sendable
write-requires-clause-sendable c =
    ap (λ (h : List Entry). are_sendable (onto h (Called c.args.line c.args.actor Fine ∷ RecoveredEntry c.args.r ∷ []))) c.in_ok-reserve.ensures.same
    ∙ (ready (goal.at.write-requires-clause-sendable c).After-recovery_over 0).sendable

pub write-requires-clause-stopped : goal.write-requires-clause-stopped
write-requires-clause-stopped c =
    c.is_stopped-stopped.ensures ∙ stopped_is c.self.invariant.kept c.in_ok-reserve.ensures.same

pub invariant_of-self-2 : goal.invariant_of-self-2
invariant_of-self-2 c =
    let b = (goal.at.invariant_of-self-2 c).After-recovery_over in
    written_whole (linked_written (ready b 0) refl (calls b 0) (past c)) c.self.invariant

pub returns-clause-done : goal.returns-clause-done
returns-clause-done c m =
    let b = (goal.at.returns-clause-done c).After-recovery_over in
    written_done c.self.inside.at_log c.args.self.now (linked_written (ready b m) refl (calls b m) (past c)) c.self.view_is
