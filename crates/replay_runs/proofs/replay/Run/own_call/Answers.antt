use Rattle.std.proofs.Common.{◌≡◌, ◌+◌, List, sym, subst}
use Rattle.std.proofs.lemmas.Result.{on_ok_weaker}
use Rattle.dtx_values.specs.declared.script.Line.{Line}
use Rattle.dtx_model.specs.Caused.{IsCallOf}
use Rattle.dtx_model.specs.Replay.{after_turn}
use Rattle.dtx_model.specs.Steps.{Calls}
use Rattle.dtx_model.specs.Words.{past_of}
use Rattle.replay_runs.specs.RunState.{state_of}
use Rattle.replay_runs.proofs.Entering.{all_below, all_below_next}
use Rattle.replay_runs.proofs.Going.{below_same, goes_same, hears_then, runs_then, stays_same}
use Rattle.replay_runs.proofs.OwnCalls.{await_answers, awaited_ran, did_answers, did_ran, plain_answers, plain_ran}
use Rattle.replay_runs.proofs.replay.Run.own_call.Goals as goal

pub call-requires-clause-given : goal.call-requires-clause-given
call-requires-clause-given g c = subst (λ (r : List Line). IsCallOf r c.args.t.value c.args.n c.args.actor c.args.c.now) (sym c.in_ok-done-in-Do.ensures.runs.script) c.requires.given

pub call-requires-clause-below : goal.call-requires-clause-below
call-requires-clause-below g c = below_same c.args.n c.args.self.now.worlds c.steps.new.self.worlds c.steps.ensures.goes.calls c.requires.below c.args.t

pub call-requires-clause-answers : goal.call-requires-clause-answers
call-requires-clause-answers g c = did_answers c.args.t.value (state_of c.args.t c.steps.new.self.worlds).world c.args.c.now _ _ _ c.in_ok-done-in-Do.done c.in-Do.is c.in_ok-done-in-Do.ensures.did

pub returns-in_ok-done-in-Do-clause-runs : goal.returns-in_ok-done-in-Do-clause-runs
returns-in_ok-done-in-Do-clause-runs g c =
    on_ok_weaker c.call.result (runs_then g.D.Disk.faults g.D.Disk.honest g.D.Disk.image g.D.Disk.obeys g.D.Disk.seen c.args.log.now c.steps.new.log c.steps.new.log c.args.self.now c.steps.new.self c.call.new.self c.in_ok-done-in-Do.ensures.runs) c.call.ensures.runs

pub returns-in_ok-done-in-Do-clause-entered : goal.returns-in_ok-done-in-Do-clause-entered
returns-in_ok-done-in-Do-clause-entered g c =
    let ws = c.steps.new.self.worlds in
    let below = below_same c.args.n c.args.self.now.worlds ws c.steps.ensures.goes.calls c.requires.below in
    on_ok_weaker c.call.result (λ entered. all_below (c.args.n + 1) c.args.t ws c.call.new.self.worlds c.call.ensures.others entered (all_below_next c.args.n ws below)) c.call.ensures.entered

pub returns-in_ok-done-in-Do-clause-done : goal.returns-in_ok-done-in-Do-clause-done
returns-in_ok-done-in-Do-clause-done g c =
    let s = c.args.self.now.script in
    on_ok_weaker c.call.result
    (λ did. did_ran s c.args.actor c.args.n c.args.t c.args.c.now _ _ _ c.in_ok-done-in-Do.done (past_of c.args.self.now.trace) (past_of c.steps.new.self.trace) (past_of c.call.new.self.trace) c.in-Do.is c.in_ok-done-in-Do.ensures.done
    (subst (λ (r : List Line). past_of c.call.new.self.trace ≡ after_turn r c.args.t (Calls c.args.n c.args.actor c.args.c.now c.in_ok-done-in-Do.done) (past_of c.steps.new.self.trace)) c.in_ok-done-in-Do.ensures.runs.script did))
    c.call.ensures.done

pub call-requires-in-Await-clause-given : goal.call-requires-in-Await-clause-given
call-requires-in-Await-clause-given g c = subst (λ (r : List Line). IsCallOf r c.args.t.value c.args.n c.args.actor c.args.c.now) (sym c.in_ok-settle-in-Await.ensures.runs.script) c.requires.given

pub call-requires-in-Await-clause-below : goal.call-requires-in-Await-clause-below
call-requires-in-Await-clause-below g c = below_same c.args.n c.args.self.now.worlds c.settle.new.self.worlds c.settle.ensures.goes.calls c.requires.below c.args.t

pub call-requires-in-Await-clause-answers : goal.call-requires-in-Await-clause-answers
call-requires-in-Await-clause-answers g c = await_answers c.args.t.value (state_of c.args.t c.settle.new.self.worlds).world c.args.c.now _ 0 c.in-Await.is c.in_ok-settle-in-Await.ensures.settled

pub returns-in_ok-settle-in-Await-clause-runs : goal.returns-in_ok-settle-in-Await-clause-runs
returns-in_ok-settle-in-Await-clause-runs g c =
    on_ok_weaker c.call-in-Await.result (runs_then g.D.Disk.faults g.D.Disk.honest g.D.Disk.image g.D.Disk.obeys g.D.Disk.seen c.args.log.now c.settle.new.log c.settle.new.log c.args.self.now c.settle.new.self c.call-in-Await.new.self c.in_ok-settle-in-Await.ensures.runs) c.call-in-Await.ensures.runs

pub returns-in_ok-settle-in-Await-clause-entered : goal.returns-in_ok-settle-in-Await-clause-entered
returns-in_ok-settle-in-Await-clause-entered g c =
    let ws = c.settle.new.self.worlds in
    let below = below_same c.args.n c.args.self.now.worlds ws c.settle.ensures.goes.calls c.requires.below in
    on_ok_weaker c.call-in-Await.result (λ entered. all_below (c.args.n + 1) c.args.t ws c.call-in-Await.new.self.worlds c.call-in-Await.ensures.others entered (all_below_next c.args.n ws below)) c.call-in-Await.ensures.entered

pub returns-in_ok-settle-in-Await-clause-done : goal.returns-in_ok-settle-in-Await-clause-done
returns-in_ok-settle-in-Await-clause-done g c =
    let s = c.args.self.now.script in
    on_ok_weaker c.call-in-Await.result
    (λ did. awaited_ran s c.args.actor c.args.n c.args.t c.args.c.now _ c.args.self.now.trace c.settle.new.self.trace c.call-in-Await.new.self.trace c.in-Await.is c.in_ok-settle-in-Await.ensures.done
    (subst (λ (r : List Line). past_of c.call-in-Await.new.self.trace ≡ after_turn r c.args.t (Calls c.args.n c.args.actor c.args.c.now 0) (past_of c.settle.new.self.trace)) c.in_ok-settle-in-Await.ensures.runs.script did))
    c.call-in-Await.ensures.done

pub call-requires-in_default-clause-answers : goal.call-requires-in_default-clause-answers
call-requires-in_default-clause-answers g c = plain_answers c.args.t.value (state_of c.args.t c.args.self.now.worlds).world c.args.c.now c.in_default.not-Do c.in_default.not-Await

pub returns-in_default-clause-entered : goal.returns-in_default-clause-entered
returns-in_default-clause-entered g c =
    let ws = c.args.self.now.worlds in
    on_ok_weaker c.call-in_default.result (λ entered. all_below (c.args.n + 1) c.args.t ws c.call-in_default.new.self.worlds c.call-in_default.ensures.others entered (all_below_next c.args.n ws c.requires.below)) c.call-in_default.ensures.entered

pub returns-in_default-clause-log : goal.returns-in_default-clause-log
returns-in_default-clause-log g c = goes_same g.D.Disk.faults g.D.Disk.honest g.D.Disk.image c.args.log.now

pub returns-in_default-clause-stays : goal.returns-in_default-clause-stays
returns-in_default-clause-stays g c = stays_same g.D.Disk.faults c.args.log.now

pub returns-in_default-clause-done : goal.returns-in_default-clause-done
returns-in_default-clause-done g c =
    on_ok_weaker c.call-in_default.result
    (λ did. plain_ran c.args.self.now.script c.args.actor c.args.n c.args.t c.args.c.now (past_of c.args.self.now.trace) (past_of c.call-in_default.new.self.trace) c.in_default.not-Do c.in_default.not-Await did)
    c.call-in_default.ensures.done

pub returns-in_ok-done-in-Do-clause-heard : goal.returns-in_ok-done-in-Do-clause-heard
returns-in_ok-done-in-Do-clause-heard g c =
    on_ok_weaker c.call.result (hears_then g.O.Objects.is_for g.O.Objects.reached c.args.self.now c.steps.new.self c.call.new.self c.args.objects.now c.steps.new.objects c.call.new.objects c.in_ok-done-in-Do.ensures.heard) c.call.ensures.heard

pub returns-in_ok-settle-in-Await-clause-heard : goal.returns-in_ok-settle-in-Await-clause-heard
returns-in_ok-settle-in-Await-clause-heard g c =
    on_ok_weaker c.call-in-Await.result
    (hears_then g.O.Objects.is_for g.O.Objects.reached c.args.self.now c.settle.new.self c.call-in-Await.new.self c.args.objects.now c.settle.new.objects c.call-in-Await.new.objects c.in_ok-settle-in-Await.ensures.heard) c.call-in-Await.ensures.heard
