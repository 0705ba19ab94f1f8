use Rattle.std.proofs.Common.{List, ap, arith, get_or, length, refl, set, subst, sym, ◌++◌, ◌+◌, ◌-◌, ◌∙◌, ◌≡◌}
use Rattle.dtx_values.specs.declared.number.TxNo.{TxNo}
use Rattle.dtx_values.specs.TxIds.{number_of}
use Rattle.dtx_model.specs.Grammar.{are_named_well}
use Rattle.dtx_model.specs.Steps.{Calls}
use Rattle.dtx_model.specs.Traces.{Placed, placed}
use Rattle.dtx_model.specs.Words.{past_of}
use Rattle.dtx_model.proofs.Pasts.{length-past}
use Rattle.tx_world.specs.State.{TxState}
use Rattle.replay_runs.specs.RunState.{AreNumbered, IsBelow, RunState, state_of}
use Rattle.replay_runs.proofs.CallsHold.{Entered, entered_at_place, entered_finds, entered_holds, entered_tells, entered_turn, may_answer_here, may_enter_here, past_after, past_longer}
use Rattle.replay_runs.proofs.Entering.{below_after}
use Rattle.replay_runs.proofs.Numbered.{numbered_same}
use Rattle.replay_runs.proofs.Turns.{written}
use Rattle.replay_runs.specs.Whose.{named}
use Rattle.replay_runs.proofs.Going.{hears_on}
use Rattle.replay_runs.proofs.Replying.{plain_written}
use Rattle.heard_notes.specs.Heard.{heard}
use Rattle.replay_runs.proofs.replay.Run.call.Goals as goal

pub enter-requires-clause-enters : goal.enter-requires-clause-enters
enter-requires-clause-enters g c =
    let s = c.args.self.now.script in
    let place : c.index.result ≡ c.args.t.value - 1 = omega (arith, c.index.ensures.place) in
    may_enter_here s c.args.self.now.objects (past_of c.args.self.now.trace) c.args.self.now.worlds c.reach.new.worlds.items c.args.t c.args.n c.args.actor c.args.c.now c.index_mut-world.result.now c.in_ok-reach.ensures.reached
    (rw place at c.index_mut-world.ensures.value) (λ u. c.reach.ensures.same u ∙ ap (λ (r : RunState). state_of u r.worlds) c.self.view_is)
    (c.lifting.ensures.once s c.args.t.value (ap (λ (r : RunState). are_named_well r.script) (sym c.self.view_is) ∙ c.self.invariant.2)) (c.requires.holds.tied c.args.t) c.requires.given c.requires.below

pub enter-requires-clause-answers : goal.enter-requires-clause-answers
enter-requires-clause-answers g c =
    let place : c.index.result ≡ c.args.t.value - 1 = omega (arith, c.index.ensures.place) in
    let numbered = numbered_same c.self.inside.worlds.items c.reach.new.worlds.items c.self.invariant.0 (c.reach.ensures.few c.self.invariant.0.few) c.reach.ensures.same in
    may_answer_here c.args.self.now.worlds c.reach.new.worlds.items c.args.t c.args.c.now c.args.done c.index_mut-world.result.now numbered c.in_ok-reach.ensures.reached
    (rw place at c.index_mut-world.ensures.value) (λ u. c.reach.ensures.same u ∙ ap (λ (r : RunState). state_of u r.worlds) c.self.view_is) c.requires.answers

pub note-requires : goal.note-requires
note-requires g c =
    let h = c.history.result.now.items in
    past_longer g.D.Disk.faults c.args.log.now (Calls c.args.n c.args.actor c.args.c.now c.args.done) c.index_mut-world.result.now c.enter.new.self c.len-from.result c.in_ok-enter.ensures.done
    (c.len-from.ensures ∙ (sym (length-past h) ∙ ap length c.history.ensures))

pub returns : goal.returns
returns g c =
    let old = c.args.self.now in
    let log = c.args.log.now in
    let t = c.args.t in
    let ws = c.reach.new.worlds.items in
    let x = c.index_mut-world.result.now in
    let y = c.enter.new.self in
    let h = c.history.result.now.items in
    let step = Calls c.args.n c.args.actor c.args.c.now c.args.done in
    let place : c.index.result ≡ t.value - 1 = omega (arith, c.index.ensures.place) in
    let made = c.in_ok-reach.ensures.reached in
    let here : x ≡ get_or ws (t.value - 1) x = rw place at c.index_mut-world.ensures.value in
    let same : (u : TxNo) → state_of u ws ≡ state_of u old.worlds = λ u. c.reach.ensures.same u ∙ ap (λ (r : RunState). state_of u r.worlds) c.self.view_is in
    let numbered : AreNumbered ws = numbered_same c.self.inside.worlds.items ws c.self.invariant.0 (c.reach.ensures.few c.self.invariant.0.few) c.reach.ensures.same in
    let past = past_after g.D.Disk.faults log ws t step x y numbered made here c.in_ok-enter.ensures.done in
    let many : length x.world.past ≡ c.len-from.result = sym (ap length c.history.ensures) ∙ length-past h ∙ sym c.len-from.ensures in
    let noted = c.in_ok-note.ensures x.world.past (written log.is_up t.value x.world step) many past in
    let new : RunState = record { script = c.self.inside.plans; objects = named c.self.inside.whose; worlds = set ws c.index.result y; contexts = c.self.inside.contexts.items; trace = c.note.new.trace.items } in
    let did : Entered g.D.Disk.faults log t c.args.n c.args.actor c.args.c.now c.args.done x y old new =
    entered_at_place g.D.Disk.faults log t c.args.n c.args.actor c.args.c.now c.args.done x y old new ws numbered made here same (ap (λ (r : RunState). r.script) c.self.view_is)
    (ap (λ (r : RunState). r.objects) c.self.view_is)
    (ap (λ k. set ws k y) place) c.is_own_run.ensures.run c.in_ok-enter.ensures.done c.in_ok-enter.ensures.done.kept
    (record { own = c.is_own_run-2.ensures.run; once = c.is_own_run-2.ensures.once; ours = c.is_own_run-2.ensures.ours; tried = c.is_own_run-2.ensures.tried })
    (noted ∙ ap (λ (r : RunState). r.trace ++ placed t (written log.is_up t.value x.world step)) c.self.view_is) in
    record {
      contexts = ap (λ (r : RunState). r.contexts) c.self.view_is;
      runs = record {
        script = did.script;
        objects = did.objects;
        tells = λ start. entered_tells g.D.Disk.faults g.D.Disk.honest g.D.Disk.image start log t c.args.n c.args.actor c.args.c.now c.args.done x y old new did;
        finds = λ is start. entered_finds g.D.Disk.faults g.D.Disk.seen start log t c.args.n c.args.actor c.args.c.now c.args.done x y old new did;
        holds = entered_holds g.D.Disk.faults g.D.Disk.honest g.D.Disk.image log t c.args.n c.args.actor c.args.c.now c.args.done x y old new did c.requires.given c.requires.holds;
      };
      heard =
          hears_on g.O.Objects.is_for g.O.Objects.reached old new c.args.objects.now c.tell.new.self did.script did.objects
          (c.tell.ensures.made old.script old.objects c.requires.made)
          (λ from before.
          subst (λ (T : List Placed). g.O.Objects.reached old.script from (heard old.script old.objects T) c.tell.new.self) (sym did.block)
          (c.tell.ensures.called x.world.past (written log.is_up t.value x.world step) many past old.script old.objects from (past_of old.trace) c.requires.made (plain_written log.is_up t.value x.world step refl) before));
      others = did.others;
      entered =
          subst (λ (z : TxState). IsBelow (c.args.n + 1) z) (sym did.now)
          (below_after c.args.n c.args.actor c.args.c.now c.args.done log.is_up (number_of x.transaction) x y did.does.world (subst (λ (z : TxState). IsBelow c.args.n z) did.was c.requires.below));
      done = entered_turn g.D.Disk.faults g.D.Disk.honest g.D.Disk.image log t c.args.n c.args.actor c.args.c.now c.args.done x y old new did c.requires.holds;
    }

pub tell-requires-clause-from : goal.tell-requires-clause-from
tell-requires-clause-from g c =
    let h = c.history.result.now.items in
    past_longer g.D.Disk.faults c.args.log.now (Calls c.args.n c.args.actor c.args.c.now c.args.done) c.index_mut-world.result.now c.enter.new.self c.len-from.result c.in_ok-enter.ensures.done
    (c.len-from.ensures ∙ (sym (length-past h) ∙ ap length c.history.ensures))

pub tell-requires-clause-made : goal.tell-requires-clause-made
tell-requires-clause-made g c = (c.args.self.now.script, c.args.self.now.objects, c.requires.made)
