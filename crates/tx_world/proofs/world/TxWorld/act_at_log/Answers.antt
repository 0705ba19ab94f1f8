use Rattle.std.proofs.Common.{◌≡◌, ◌∷◌, ◌∙◌, List, true, ap, sym}
use Rattle.std.specs.Prelude.{IsTrue}
use Rattle.dtx_values.specs.declared.entry.Entry.{Entry}
use Rattle.dtx_values.specs.TxIds.{number_of}
use Rattle.dtx_values.specs.declared.entry.Entry.TheVariants.{Stopped}
use Rattle.dtx_model.specs.Coordinated.{Coordinated}
use Rattle.dtx_model.specs.Words.{each, onto}
use Rattle.dtx_model.specs.Steps.{coordinates}
use Rattle.dtx_model.specs.Tied.{tied}
use Rattle.dtx_model.specs.World.{core}
use Rattle.world_laws.specs.Carried.{are_sendable}
use Rattle.world_laws.specs.Course.{is_written}
use Rattle.tx_world.specs.AtLog.{id_of}
use Rattle.tx_world.specs.Tried.{IsTried}
use Rattle.world_parts.specs.Found.{IsLeftAsWished}
use Rattle.tx_world.proofs.AtTheLog.{Acted, acted, acted_leaves, acted_life, acted_so, acted_tried, acted_whole, acted_wished, stop_only, written_only}
use Rattle.tx_world.proofs.Written.{block_of, stopped_is, world_of}
use Rattle.tx_world.proofs.world.TxWorld.act_at_log.Given.{Over}
use Rattle.tx_world.proofs.world.TxWorld.act_at_log.Goals.{After-act, After-entries, After-stop, After-write}
use Rattle.tx_world.proofs.world.TxWorld.act_at_log.Goals as goal

-- the coordinator acted as the log answered
did : (g : Over) (c : After-act g) → Acted c.self.inside.transaction (world_of c.self.inside.calls.items c.self.inside.history.past) c.self.inside.half c.self.inside.core c.act.new.core c.act.ensures.acts.answer
did g c =
    let i = c.self.inside in
    let acts = c.act.ensures.acts in
    acted i.transaction (world_of i.calls.items i.history.past) i.half i.core c.act.new.core acts.answer c.self.invariant.kept acts.may c.act.ensures.transaction acts.state

-- it lives on in its life,
lived : (g : Over) (c : After-act g) → c.act.new.self.life ≡ c.self.inside.at_log.life
lived g c =
    let i = c.self.inside in
    acted_life g.D.Disk.faults (number_of i.core.transaction) i.core.state c.act.new.core.state i.at_log c.act.new.self c.clear.new.self c.act.new.out c.args.log.now c.act.new.log c.act.ensures.acts

-- and what is kept then is what the history says
tried : (g : Over) (c : After-act g) (n : List Entry) → n ≡ onto c.self.inside.history.past (coordinates c.self.inside.core.state c.act.ensures.acts.answer) → tied n ≡ true → IsTried n c.act.new.self
tried g c n past =
    let i = c.self.inside in
    let acts = c.act.ensures.acts in
    let d = did g c in
    acted_tried i.transaction (world_of i.calls.items i.history.past) i.half i.core c.act.new.core acts.answer n i.at_log c.act.new.self c.self.invariant d past c.act.ensures.leaves.ours c.act.ensures.leaves.had
    (λ stops. stop_only i.core.state acts.answer d.running (ap (λ (s : Coordinated). s.stopped) (sym acts.state) ∙ stops))

-- what a stop by it leaves of its record is as wished
wished : (g : Over) (c : After-act g) → IsTrue g.D.Disk.obeys → IsLeftAsWished g.D.Disk.faults g.D.Disk.seen (core c.args.self.now.world) (id_of c.args.self.now) c.args.log.now c.act.new.log
wished g c obeys =
    let i = c.self.inside in
    acted_wished g.D.Disk.faults g.D.Disk.seen i.transaction (world_of i.calls.items i.history.past) i.half i.core i.at_log c.args.self.now c.args.log.now c.act.new.log c.self.invariant.kept c.self.view_is (c.act.ensures.found obeys)

-- where that stopped it, the stop alone comes onto the past
stop_past : (g : Over) (c : After-stop g) → Acted c.self.inside.transaction (world_of c.self.inside.calls.items c.self.inside.history.past) c.self.inside.half c.self.inside.core c.act.new.core c.act.ensures.acts.answer
    → c.stop.new.self.past ≡ onto c.self.inside.history.past (coordinates c.self.inside.core.state c.act.ensures.acts.answer)
stop_past g c did =
    let i = c.self.inside in
    let acts = c.act.ensures.acts in
    let only = stop_only i.core.state acts.answer did.running (ap (λ (s : Coordinated). s.stopped) (sym acts.state) ∙ sym c.is_stopped.ensures ∙ c.if-is_stopped.true) in
    c.stop.ensures.past ∙ ap (λ (h : List Entry). Stopped ∷ h) c.in_ok-reserve.ensures.same ∙ ap (onto i.history.past) (sym only)

-- else its block is what was put out
block : (g : Over) (c : After-entries g) → c.entries.result.now ≡ coordinates c.self.inside.core.state c.act.ensures.acts.answer
block g c = block_of c.clear.new.self c.act.new.out c.entries.result.now (coordinates c.self.inside.core.state c.act.ensures.acts.answer) c.entries.ensures.value c.act.ensures.acts.written c.clear.ensures

-- and comes onto the past
write_past : (g : Over) (c : After-write g) → c.entries.result.now ≡ coordinates c.self.inside.core.state c.act.ensures.acts.answer
    → c.write.new.self.past ≡ onto c.self.inside.history.past (coordinates c.self.inside.core.state c.act.ensures.acts.answer)
write_past g c is = c.write.ensures.past ∙ ap (λ (h : List Entry). onto h c.entries.result.now) c.in_ok-reserve.ensures.same ∙ ap (onto c.self.inside.history.past) is

pub invariant_of-self-then-is_stopped : goal.invariant_of-self-then-is_stopped
invariant_of-self-then-is_stopped g c =
    let i = c.self.inside in
    let d = did g (goal.at.invariant_of-self-then-is_stopped g c).After-act in
    acted_whole i.transaction (world_of i.calls.items i.history.past) i.half i.core c.act.new.core c.act.ensures.acts.answer c.stop.new.self.past c.act.new.self d (stop_past g c d) c.act.ensures.transaction c.act.ensures.leaves.ours
    (tried g (goal.at.invariant_of-self-then-is_stopped g c).After-act c.stop.new.self.past (stop_past g c d))

pub write-requires-clause-written : goal.write-requires-clause-written
write-requires-clause-written g c =
    let acts = c.act.ensures.acts in
    ap (each is_written) (block g c) ∙ written_only c.self.inside.core.state acts.answer (ap (λ (s : Coordinated). s.stopped) (sym acts.state) ∙ sym c.is_stopped.ensures ∙ c.if-is_stopped.false)

pub write-requires-clause-sendable : goal.write-requires-clause-sendable
write-requires-clause-sendable g c =
    ap (λ (h : List Entry). are_sendable (onto h c.entries.result.now)) c.in_ok-reserve.ensures.same ∙ ap (λ (es : List Entry). are_sendable (onto c.self.inside.history.past es)) (block g c)
    ∙ (did g (goal.at.write-requires-clause-sendable g c).After-act).sendable

pub write-requires-clause-stopped : goal.write-requires-clause-stopped
write-requires-clause-stopped g c =
    sym (did g (goal.at.write-requires-clause-stopped g c).After-act).running ∙ stopped_is c.self.invariant.kept c.in_ok-reserve.ensures.same

pub invariant_of-self-else-is_stopped : goal.invariant_of-self-else-is_stopped
invariant_of-self-else-is_stopped g c =
    let i = c.self.inside in
    let at = goal.at.invariant_of-self-else-is_stopped g c in
    acted_whole i.transaction (world_of i.calls.items i.history.past) i.half i.core c.act.new.core c.act.ensures.acts.answer c.write.new.self.past c.act.new.self (did g at.After-act) (write_past g c (block g at.After-entries))
    c.act.ensures.transaction c.act.ensures.leaves.ours (tried g at.After-act c.write.new.self.past (write_past g c (block g at.After-entries)))

pub returns-then-is_stopped-clause-done : goal.returns-then-is_stopped-clause-done
returns-then-is_stopped-clause-done g c = λ ok.
    let i = c.self.inside in
    let d = did g (goal.at.returns-then-is_stopped-clause-done g c).After-act in
    acted_so g.D.Disk.faults i.transaction (world_of i.calls.items i.history.past) i.half i.core c.act.new.core c.stop.new.self.past i.at_log c.act.new.self c.clear.new.self c.act.new.out c.args.self.now c.args.log.now
    c.act.new.log c.act.ensures.acts c.self.invariant.kept d (stop_past g c d) (lived g (goal.at.returns-then-is_stopped-clause-done g c).After-act) c.self.view_is

pub returns-else-is_stopped-clause-done : goal.returns-else-is_stopped-clause-done
returns-else-is_stopped-clause-done g c = λ ok.
    let i = c.self.inside in
    let at = goal.at.returns-else-is_stopped-clause-done g c in
    acted_so g.D.Disk.faults i.transaction (world_of i.calls.items i.history.past) i.half i.core c.act.new.core c.write.new.self.past i.at_log c.act.new.self c.clear.new.self c.act.new.out c.args.self.now c.args.log.now
    c.act.new.log c.act.ensures.acts c.self.invariant.kept (did g at.After-act) (write_past g c (block g at.After-entries)) (lived g at.After-act) c.self.view_is

pub returns-then-is_stopped-clause-leaves : goal.returns-then-is_stopped-clause-leaves
returns-then-is_stopped-clause-leaves g c =
    let i = c.self.inside in
    let d = did g (goal.at.returns-then-is_stopped-clause-leaves g c).After-act in
    acted_leaves i.transaction (world_of i.calls.items i.history.past) i.half i.core c.act.new.core c.act.ensures.acts.answer c.stop.new.self.past i.at_log c.act.new.self c.args.self.now c.args.log.now c.act.new.log
    c.self.invariant.kept d (stop_past g c d) c.act.ensures.leaves c.act.ensures.later c.self.view_is

pub returns-else-is_stopped-clause-leaves : goal.returns-else-is_stopped-clause-leaves
returns-else-is_stopped-clause-leaves g c =
    let i = c.self.inside in
    let at = goal.at.returns-else-is_stopped-clause-leaves g c in
    acted_leaves i.transaction (world_of i.calls.items i.history.past) i.half i.core c.act.new.core c.act.ensures.acts.answer c.write.new.self.past i.at_log c.act.new.self c.args.self.now c.args.log.now c.act.new.log
    c.self.invariant.kept (did g at.After-act) (write_past g c (block g at.After-entries)) c.act.ensures.leaves c.act.ensures.later c.self.view_is

pub returns-then-is_stopped-clause-found : goal.returns-then-is_stopped-clause-found
returns-then-is_stopped-clause-found g c = wished g (goal.at.returns-then-is_stopped-clause-found g c).After-act

pub returns-else-is_stopped-clause-found : goal.returns-else-is_stopped-clause-found
returns-else-is_stopped-clause-found g c = wished g (goal.at.returns-else-is_stopped-clause-found g c).After-act
