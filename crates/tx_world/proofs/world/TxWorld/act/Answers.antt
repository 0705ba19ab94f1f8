use Rattle.std.proofs.Common.{◌≡◌, ◌≤◌, arith, false, length, not, refl, sym, ◌∙◌}
use Rattle.dtx_model.specs.Steps.{Acts}
use Rattle.dtx_values.specs.TxIds.{number_of}
use Rattle.tx_world.proofs.Silent.{act_silent}
use Rattle.tx_world.proofs.Silently.{ready_written, written_done, written_named, written_whole}
use Rattle.tx_world.proofs.Written.{Ready, act_ready, world_of}
use Rattle.world_parts.specs.Sending.{MayWrite, is_sent}
use Rattle.dtx_model.specs.Words.{has}
use Rattle.tx_world.proofs.Sending.{act_calm, may_write_near, unsent_there}
use Rattle.tx_world.proofs.Few.{few_there}
use Rattle.tx_world.proofs.world.TxWorld.act.Goals.{After-entries}
use Rattle.tx_world.proofs.world.TxWorld.act.Goals as goal

-- what the act writes is ready
ready : (c : After-entries) → Ready c.self.inside.transaction (world_of c.self.inside.calls.items c.self.inside.history.past) Acts c.act.new.self c.self.inside.core c.reserve_for.new.self.past c.entries.result.now
ready c =
    let i = c.self.inside in
    act_ready i.transaction (world_of i.calls.items i.history.past) i.half c.act.new.self i.core c.clear.new.self c.act.new.out c.reserve_for.new.self.past c.entries.result.now c.self.invariant.kept c.in_ok-reserve_for.ensures.same
    (sym c.act.ensures.acted ∙ c.if-not-act.false) c.act.ensures.state c.entries.ensures.value c.act.ensures.out c.clear.ensures

-- it sends nothing where no promotion began, and is short then
short : (c : After-entries) → not c.is_unpromoted-sends.result ≡ false → (has is_sent c.entries.result.now ≡ false) × (length c.entries.result.now ≤ 4)
short c n =
    let u = c.is_unpromoted-sends.result in
    let kept = c.self.invariant.kept in
    let calm = act_calm (number_of c.self.inside.transaction) (world_of c.self.inside.calls.items c.self.inside.history.past) in
    (unsent_there u kept (ready c) calm c.is_unpromoted-sends.ensures n, few_there u kept (ready c) c.in_ok-reserve_for.ensures.same calm c.is_unpromoted-sends.ensures n)

-- so it may be written
may : (c : After-entries) → MayWrite c.reserve_for.new.self c.entries.result.now c.self.inside.core
may c = may_write_near (not c.is_unpromoted-sends.result) c.reserve_for.new.self (ready c) c.entries.ensures.few (short c) c.in_ok-reserve_for.ensures.room c.in_ok-reserve_for.ensures.sends

pub write-requires-clause-starts : goal.write-requires-clause-starts
write-requires-clause-starts c s =
    let m = may (goal.at.write-requires-clause-starts c).After-entries in
    let few = m.few in
    let starts = m.starts s in
    omega arith

pub write-requires-clause-sends : goal.write-requires-clause-sends
write-requires-clause-sends c s =
    let m = may (goal.at.write-requires-clause-sends c).After-entries in
    let few = m.few in
    let sends = m.sends s in
    omega arith

pub write-requires-clause-room : goal.write-requires-clause-room
write-requires-clause-room c = let room = (may (goal.at.write-requires-clause-room c).After-entries).room in omega arith

pub write-requires-clause-written : goal.write-requires-clause-written
write-requires-clause-written c = (ready (goal.at.write-requires-clause-written c).After-entries).written

pub write-requires-clause-sendable : goal.write-requires-clause-sendable
write-requires-clause-sendable c = (ready (goal.at.write-requires-clause-sendable c).After-entries).sendable

pub write-requires-clause-stopped : goal.write-requires-clause-stopped
write-requires-clause-stopped c = c.is_stopped.ensures ∙ (ready (goal.at.write-requires-clause-stopped c).After-entries).stopped

pub invariant_of-self-2 : goal.invariant_of-self-2
invariant_of-self-2 c = written_whole (ready_written (ready (goal.at.invariant_of-self-2 c).After-entries) refl (sym (act_silent (number_of c.self.inside.transaction) (world_of c.self.inside.calls.items c.self.inside.history.past))) refl c.write.ensures.past) c.self.invariant

pub returns-clause-done : goal.returns-clause-done
returns-clause-done c d = written_done c.self.inside.at_log c.args.self.now (ready_written (ready (goal.at.returns-clause-done c).After-entries) refl (sym (act_silent (number_of c.self.inside.transaction) (world_of c.self.inside.calls.items c.self.inside.history.past))) refl c.write.ensures.past) c.self.view_is

-- the record that is kept names who said PREPARED
pub returns-clause-named : goal.returns-clause-named
returns-clause-named c n = written_named c.self.inside.at_log c.args.self.now (ready_written (ready (goal.at.returns-clause-named c).After-entries) refl (sym (act_silent (number_of c.self.inside.transaction) (world_of c.self.inside.calls.items c.self.inside.history.past))) refl c.write.ensures.past) c.self.invariant c.self.view_is n
