use Rattle.std.proofs.Common.{◌≡◌, ℕ, ap, refl, ◌∙◌}
use Rattle.dtx_values.specs.declared.call.Call.TheVariants.{Reenlist}
use Rattle.dtx_values.specs.TxIds.{number_of}
use Rattle.dtx_model.specs.Words.{past_of}
use Rattle.dtx_model.specs.Steps.{Calls, entered}
use Rattle.dtx_model.specs.World.{answer_at}
use Rattle.tx_world.specs.State.{TxState, may_enter}
use Rattle.tx_world.proofs.Calling.{with_call}
use Rattle.tx_world.proofs.Reenlisting.{Returned, fine_accepted, returns_back}
use Rattle.tx_world.proofs.Silently.{block_written, written_done, written_whole}
use Rattle.tx_world.proofs.Written.{stopped_is, world_of}
use Rattle.tx_world.proofs.world.TxWorld.enter_returned.Goals.{After-is_stopped}
use Rattle.tx_world.proofs.world.TxWorld.enter_returned.Goals as goal

-- the return is ready to be written, whatever number is given with it
ready : (c : After-is_stopped) (m : ℕ)
    → Returned c.self.inside.transaction (world_of c.self.inside.calls.items c.self.inside.history.past) c.args.line c.args.actor c.args.e m c.write_return.new.half c.self.inside.core
    c.reserve.new.self.past c.entries.result.now
ready c m =
    let i = c.self.inside in
    let may = ap (λ (x : TxState). may_enter x.world c.args.line (Reenlist c.args.e)) c.self.view_is ∙ c.requires.enters in
    let fine = ap (λ (x : TxState). answer_at (number_of x.transaction) x.world (Reenlist c.args.e) 0) c.self.view_is ∙ c.requires.fine in
    let wrote = c.write_return.ensures in
    returns_back i.transaction (world_of i.calls.items i.history.past) i.half c.write_return.new.half i.core c.args.line c.args.actor c.args.e m c.clear.new.self c.write_return.new.out
    c.reserve.new.self.past c.entries.result.now c.self.invariant.kept c.in_ok-reserve.ensures.same may fine (wrote.state m) c.entries.ensures.value wrote.out c.clear.ensures

-- the call is the newest
calls : (c : After-is_stopped) (m : ℕ) → past_of c.push_reserved.new.self.items ≡ entered (Calls c.args.line c.args.actor (Reenlist c.args.e) m) (past_of c.self.inside.calls.items)
calls c m =
    with_call c.self.inside.calls.items c.reserve_call.new.calls.items c.push_reserved.new.self.items (record { line = c.args.line; actor = c.args.actor; call = Reenlist c.args.e }) c.push_reserved.ensures.items
    c.in_ok-reserve_call.ensures.items

pub write_return-requires-clause-accepted : goal.write_return-requires-clause-accepted
write_return-requires-clause-accepted c =
    let i = c.self.inside in
    fine_accepted i.transaction (world_of i.calls.items i.history.past) i.half i.core c.args.e 0 c.self.invariant.kept
    (ap (λ (x : TxState). answer_at (number_of x.transaction) x.world (Reenlist c.args.e) 0) c.self.view_is ∙ c.requires.fine)

pub write-requires-clause-written : goal.write-requires-clause-written
write-requires-clause-written c = (ready c 0).written

pub write-requires-clause-sendable : goal.write-requires-clause-sendable
write-requires-clause-sendable c = (ready c 0).sendable

pub write-requires-clause-stopped : goal.write-requires-clause-stopped
write-requires-clause-stopped c =
    c.is_stopped.ensures ∙ stopped_is c.self.invariant.kept c.in_ok-reserve.ensures.same

pub invariant_of-self-2 : goal.invariant_of-self-2
invariant_of-self-2 c =
    let b = (goal.at.invariant_of-self-2 c).After-is_stopped in
    written_whole (block_written (ready b 0).ready refl (calls b 0) (c.write.ensures.past ∙ (ready b 0).past)) c.self.invariant

pub returns-clause-done : goal.returns-clause-done
returns-clause-done c m =
    let b = (goal.at.returns-clause-done c).After-is_stopped in
    written_done c.self.inside.at_log c.args.self.now (block_written (ready b m).ready refl (calls b m) (c.write.ensures.past ∙ (ready b m).past)) c.self.view_is
