use Rattle.std.proofs.Common.{◌≡◌, ◌∷◌, ◌+◌, [], List, ap, refl, sym, subst, ◌∙◌}
use Rattle.std.proofs.lemmas.Result.{on_ok_weaker}
use Rattle.dtx_values.specs.declared.script.Line.{Line}
use Rattle.dtx_model.specs.Caused.{IsCallOf}
use Rattle.dtx_model.specs.Contexts.{scope_block, scope_calls}
use Rattle.dtx_model.specs.Replay.{after_calls, after_scope}
use Rattle.dtx_model.specs.Traces.{Placed}
use Rattle.dtx_model.specs.Words.{past_of}
use Rattle.scope_context.specs.Standing.{Standing}
use Rattle.tx_world.specs.State.{TxState}
use Rattle.script_calls.specs.declared.scope_lines.Gives.{Gives}
use Rattle.replay_runs.proofs.Replying.{heard_noted}
use Rattle.heard_notes.specs.Heard.{heard}
use Rattle.script_calls.specs.declared.scope_lines.Gives.TheVariants.{Call as CallGiven, Nothing, Rollbacks}
use Rattle.replay_runs.specs.RunState.{AreBelow, HearsOn, Holds, RunsOn, state_of}
use Rattle.script_calls.specs.Scoped.{AreOpen, calls_given, rollbacks, rolled_at, scopes_at}
use Rattle.replay_runs.proofs.AtContext.{noted_finds, noted_holds, noted_tells, scope_did, scope_gives}
use Rattle.replay_runs.proofs.Entering.{all_below, all_below_next}
use Rattle.replay_runs.proofs.Going.{hears_none, hears_then, runs_then}
use Rattle.replay_runs.proofs.RollingBack.{rolled_once}
use Rattle.replay_runs.proofs.Scoping.{given_plain, scope_call_answers}
use Rattle.replay_runs.proofs.replay.Run.scope.Given.{Over}
use Rattle.replay_runs.proofs.replay.Run.scope.Goals.{In_ok-at_context}
use Rattle.replay_runs.proofs.replay.Run.scope.Goals as goal

-- what was done at the context holds of the run,
held : (g : Over) (c : In_ok-at_context g) → Holds g.D.Disk.honest g.D.Disk.image c.args.log.now c.at_context.new.self
held g c =
    let l = c.args.l.now in
    let es = scope_block c.args.n l.actor l.body (scopes_at l.actor c.args.self.now.contexts) in
    noted_holds g.D.Disk.honest g.D.Disk.image c.args.log.now l.actor es c.args.self.now c.at_context.new.self
    (record { script = c.at_context.ensures.script; objects = c.at_context.ensures.objects; worlds = c.at_context.ensures.worlds; block = c.in_ok-at_context.ensures.block }) c.requires.holds

-- and so the run goes on;
ran : (g : Over) (c : In_ok-at_context g) → RunsOn g.D.Disk.faults g.D.Disk.honest g.D.Disk.image g.D.Disk.obeys g.D.Disk.seen c.args.log.now c.args.log.now c.args.self.now c.at_context.new.self
ran g c =
    let l = c.args.l.now in
    let es = scope_block c.args.n l.actor l.body (scopes_at l.actor c.args.self.now.contexts) in
    record {
      script = c.at_context.ensures.script;
      objects = c.at_context.ensures.objects;
      holds = held g c;
      tells = λ start.
          noted_tells g.D.Disk.faults g.D.Disk.honest g.D.Disk.image start c.args.log.now l.actor es c.args.self.now c.at_context.new.self
          (record { script = c.at_context.ensures.script; objects = c.at_context.ensures.objects; worlds = c.at_context.ensures.worlds; block = c.in_ok-at_context.ensures.block });
      finds = λ is start.
          noted_finds g.D.Disk.faults g.D.Disk.seen start c.args.log.now l.actor es c.args.self.now c.at_context.new.self
          (record { script = c.at_context.ensures.script; objects = c.at_context.ensures.objects; worlds = c.at_context.ensures.worlds; block = c.in_ok-at_context.ensures.block });
    }

-- no object heard of it,
unheard : (g : Over) (c : In_ok-at_context g) → HearsOn g.O.Objects.is_for g.O.Objects.reached c.args.self.now c.at_context.new.self c.args.objects.now c.args.objects.now
unheard g c =
    let l = c.args.l.now in
    let r = c.args.self.now in
    let es = scope_block c.args.n l.actor l.body (scopes_at l.actor r.contexts) in
    hears_none g.O.Objects.is_for g.O.Objects.reached r c.at_context.new.self c.args.objects.now c.at_context.ensures.script c.at_context.ensures.objects c.requires.made
    (ap (heard r.script r.objects) c.in_ok-at_context.ensures.block ∙ heard_noted r.script r.objects l.actor es (past_of r.trace))

-- it entered no call,
below : (g : Over) (c : In_ok-at_context g) → AreBelow c.args.n c.at_context.new.self.worlds
below g c = subst (λ (ws : List TxState). AreBelow c.args.n ws) (sym c.at_context.ensures.worlds) c.requires.below

-- and the calls that it gives are those of the line.
given : (g : Over) (c : In_ok-at_context g) (x : Gives) → c.in_ok-at_context.field-0 ≡ x
    → calls_given x (rolled_at c.args.l.now.actor c.at_context.new.self.contexts) ≡ scope_calls c.args.l.now.body (scopes_at c.args.l.now.actor c.args.self.now.contexts)
given g c x is = ap (λ (y : Gives). calls_given y (rolled_at c.args.l.now.actor c.at_context.new.self.contexts)) (sym is) ∙ c.in_ok-at_context.ensures.calls

-- So with what they did it is what the line does.
did : (g : Over) (c : In_ok-at_context g) (x : Gives) (end : List Placed) → c.in_ok-at_context.field-0 ≡ x
    → end ≡ after_calls c.at_context.new.self.script c.args.n c.args.l.now.actor (calls_given x (rolled_at c.args.l.now.actor c.at_context.new.self.contexts)) (past_of c.at_context.new.self.trace)
    → end ≡ after_scope c.args.self.now.script c.args.n c.args.l.now (scopes_at c.args.l.now.actor c.args.self.now.contexts) (past_of c.args.self.now.trace)
did g c x end is e =
    let l = c.args.l.now in
    let old = c.args.self.now in
    let new = c.at_context.new.self in
    let cs = calls_given x (rolled_at l.actor new.contexts) in
    scope_did old.script c.args.n l (scopes_at l.actor old.contexts) cs (past_of old.trace) (past_of new.trace) end (given g c x is) c.in_ok-at_context.ensures.block
    (subst (λ (s : List Line). end ≡ after_calls s c.args.n l.actor cs (past_of new.trace)) c.at_context.ensures.script e)

-- the scopes stay as the line leaves them
kept : (g : Over) (c : In_ok-at_context g) (cs : List Standing) → cs ≡ c.at_context.new.self.contexts → (before : List Line) → AreOpen c.args.self.now.contexts before
    → AreOpen cs (c.args.l.now ∷ before)
kept g c cs same before ties = subst (λ (ds : List Standing). AreOpen ds (c.args.l.now ∷ before)) (sym same) (c.in_ok-at_context.ensures.scopes before ties)

pub call-requires-clause-holds : goal.call-requires-clause-holds
call-requires-clause-holds g c = held g (goal.at.call-requires-clause-holds g c).In_ok-at_context

pub call-requires-clause-given : goal.call-requires-clause-given
call-requires-clause-given g c =
    let l = c.args.l.now in
    let one = given g (goal.at.call-requires-clause-given g c).In_ok-at_context (CallGiven c.in-Call.t c.in-Call.c) c.in-Call.is in
    subst (λ (r : List Line). IsCallOf r c.in-Call.t.value c.args.n l.actor c.in-Call.c) (sym c.at_context.ensures.script)
    (scope_gives c.args.self.now.script c.args.n l c.args.self.now.contexts ((c.in-Call.t, c.in-Call.c) ∷ []) 0 c.in-Call.t c.in-Call.c c.requires.stands c.requires.open one refl)

pub call-requires-clause-below : goal.call-requires-clause-below
call-requires-clause-below g c = below g (goal.at.call-requires-clause-below g c).In_ok-at_context c.in-Call.t

pub call-requires-clause-answers : goal.call-requires-clause-answers
call-requires-clause-answers g c =
    let l = c.args.l.now in
    let one = given g (goal.at.call-requires-clause-answers g c).In_ok-at_context (CallGiven c.in-Call.t c.in-Call.c) c.in-Call.is in
    scope_call_answers c.in-Call.t.value (state_of c.in-Call.t c.at_context.new.self.worlds).world c.in-Call.c (given_plain l.body (scopes_at l.actor c.args.self.now.contexts) c.in-Call.t c.in-Call.c one)

pub roll_back-requires-clause-holds : goal.roll_back-requires-clause-holds
roll_back-requires-clause-holds g c = held g (goal.at.roll_back-requires-clause-holds g c).In_ok-at_context

pub roll_back-requires-clause-below : goal.roll_back-requires-clause-below
roll_back-requires-clause-below g c = below g (goal.at.roll_back-requires-clause-below g c).In_ok-at_context

pub roll_back-requires-clause-given : goal.roll_back-requires-clause-given
roll_back-requires-clause-given g c =
    let l = c.args.l.now in
    let ts = rolled_at l.actor c.at_context.new.self.contexts in
    let all = given g (goal.at.roll_back-requires-clause-given g c).In_ok-at_context Rollbacks c.in-Rollbacks.is in
    λ t d i here.
    subst (λ (r : List Line). IsCallOf r t.value c.args.n l.actor d) (sym c.at_context.ensures.script)
    (scope_gives c.args.self.now.script c.args.n l c.args.self.now.contexts (rollbacks ts) i t d c.requires.stands c.requires.open all here)

pub roll_back-requires-clause-once : goal.roll_back-requires-clause-once
roll_back-requires-clause-once g c =
    let l = c.args.l.now in
    rolled_once l.body (scopes_at l.actor c.args.self.now.contexts) (rolled_at l.actor c.at_context.new.self.contexts)
    (given g (goal.at.roll_back-requires-clause-once g c).In_ok-at_context Rollbacks c.in-Rollbacks.is)

pub returns-in-Nothing-clause-runs : goal.returns-in-Nothing-clause-runs
returns-in-Nothing-clause-runs g c = ran g (goal.at.returns-in-Nothing-clause-runs g c).In_ok-at_context

pub returns-in-Nothing-clause-entered : goal.returns-in-Nothing-clause-entered
returns-in-Nothing-clause-entered g c = all_below_next c.args.n c.at_context.new.self.worlds (below g (goal.at.returns-in-Nothing-clause-entered g c).In_ok-at_context)

pub returns-in-Nothing-clause-done : goal.returns-in-Nothing-clause-done
returns-in-Nothing-clause-done g c = did g (goal.at.returns-in-Nothing-clause-done g c).In_ok-at_context Nothing (past_of c.at_context.new.self.trace) c.in-Nothing.is refl

pub returns-in-Call-clause-runs : goal.returns-in-Call-clause-runs
returns-in-Call-clause-runs g c =
    let log = c.args.log.now in
    let first = ran g (goal.at.returns-in-Call-clause-runs g c).In_ok-at_context in
    on_ok_weaker c.call.result (runs_then g.D.Disk.faults g.D.Disk.honest g.D.Disk.image g.D.Disk.obeys g.D.Disk.seen log log log c.args.self.now c.at_context.new.self c.call.new.self first) c.call.ensures.runs

pub returns-in-Call-clause-entered : goal.returns-in-Call-clause-entered
returns-in-Call-clause-entered g c =
    let ws = c.at_context.new.self.worlds in
    let was = all_below_next c.args.n ws (below g (goal.at.returns-in-Call-clause-entered g c).In_ok-at_context) in
    on_ok_weaker c.call.result (λ entered. all_below (c.args.n + 1) c.in-Call.t ws c.call.new.self.worlds c.call.ensures.others entered was) c.call.ensures.entered

pub returns-in-Call-clause-done : goal.returns-in-Call-clause-done
returns-in-Call-clause-done g c =
    let b = (goal.at.returns-in-Call-clause-done g c).In_ok-at_context in
    on_ok_weaker c.call.result (λ ran. did g b (CallGiven c.in-Call.t c.in-Call.c) (past_of c.call.new.self.trace) c.in-Call.is ran) c.call.ensures.done

pub returns-in-Call-clause-scopes : goal.returns-in-Call-clause-scopes
returns-in-Call-clause-scopes g c =
    on_ok_weaker c.call.result (λ _. kept g (goal.at.returns-in-Call-clause-scopes g c).In_ok-at_context c.call.new.self.contexts c.call.ensures.contexts) c.call.ensures.runs

pub returns-in-Rollbacks-clause-runs : goal.returns-in-Rollbacks-clause-runs
returns-in-Rollbacks-clause-runs g c =
    let log = c.args.log.now in
    let first = ran g (goal.at.returns-in-Rollbacks-clause-runs g c).In_ok-at_context in
    on_ok_weaker c.roll_back.result (runs_then g.D.Disk.faults g.D.Disk.honest g.D.Disk.image g.D.Disk.obeys g.D.Disk.seen log log log c.args.self.now c.at_context.new.self c.roll_back.new.self first) c.roll_back.ensures.runs

pub returns-in-Rollbacks-clause-done : goal.returns-in-Rollbacks-clause-done
returns-in-Rollbacks-clause-done g c =
    let b = (goal.at.returns-in-Rollbacks-clause-done g c).In_ok-at_context in
    on_ok_weaker c.roll_back.result (λ ran. did g b Rollbacks (past_of c.roll_back.new.self.trace) c.in-Rollbacks.is ran) c.roll_back.ensures.done

pub returns-in-Rollbacks-clause-scopes : goal.returns-in-Rollbacks-clause-scopes
returns-in-Rollbacks-clause-scopes g c =
    on_ok_weaker c.roll_back.result (λ _. kept g (goal.at.returns-in-Rollbacks-clause-scopes g c).In_ok-at_context c.roll_back.new.self.contexts c.roll_back.ensures.contexts)
    c.roll_back.ensures.runs

pub call-requires-clause-made : goal.call-requires-clause-made
call-requires-clause-made g c = (unheard g (goal.at.call-requires-clause-made g c).In_ok-at_context).made

pub roll_back-requires-clause-made : goal.roll_back-requires-clause-made
roll_back-requires-clause-made g c = (unheard g (goal.at.roll_back-requires-clause-made g c).In_ok-at_context).made

pub returns-in-Nothing-clause-heard : goal.returns-in-Nothing-clause-heard
returns-in-Nothing-clause-heard g c = unheard g (goal.at.returns-in-Nothing-clause-heard g c).In_ok-at_context

pub returns-in-Call-clause-heard : goal.returns-in-Call-clause-heard
returns-in-Call-clause-heard g c =
    let first = unheard g (goal.at.returns-in-Call-clause-heard g c).In_ok-at_context in
    on_ok_weaker c.call.result (hears_then g.O.Objects.is_for g.O.Objects.reached c.args.self.now c.at_context.new.self c.call.new.self c.args.objects.now c.args.objects.now c.call.new.objects first) c.call.ensures.heard

pub returns-in-Rollbacks-clause-heard : goal.returns-in-Rollbacks-clause-heard
returns-in-Rollbacks-clause-heard g c =
    let first = unheard g (goal.at.returns-in-Rollbacks-clause-heard g c).In_ok-at_context in
    on_ok_weaker c.roll_back.result (hears_then g.O.Objects.is_for g.O.Objects.reached c.args.self.now c.at_context.new.self c.roll_back.new.self c.args.objects.now c.args.objects.now c.roll_back.new.objects first) c.roll_back.ensures.heard
