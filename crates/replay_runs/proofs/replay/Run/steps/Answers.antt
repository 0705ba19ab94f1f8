use Rattle.std.proofs.Common.{◌≡◌, ◌+◌, ℕ, suc, arith, Ok, None, true, false, List, refl, subst, sym}
use Rattle.dtx_values.specs.declared.script.Line.{Line}
use Rattle.dtx_model.specs.Caused.{HasDone, HasStepped}
use Rattle.dtx_model.specs.Replay.{HasDoneAt, world_at}
use Rattle.dtx_model.specs.Steps.{pending}
use Rattle.dtx_model.specs.Words.{kth, past_of}
use Rattle.replay_runs.specs.RunState.{Advances, RunState, StepsDone, state_of}
use Rattle.replay_runs.proofs.Going.{hears_same, hears_then, runs_same, runs_then, steps_same, steps_then}
use Rattle.replay_runs.proofs.Rounds.{did_all, did_some, done_all, done_some, steps-more}
use Rattle.replay_runs.proofs.replay.Run.steps.Goals as goal

pub loop-m-init : goal.loop-m-init
loop-m-init g c =
    record {
      goes = steps_same g.D.Disk.faults g.D.Disk.honest g.D.Disk.image c.args.log.now c.args.self.now;
      runs = runs_same g.D.Disk.faults g.D.Disk.honest g.D.Disk.image g.D.Disk.obeys g.D.Disk.seen c.args.log.now c.args.self.now c.requires.holds;
      heard = hears_same g.O.Objects.is_for g.O.Objects.reached c.args.self.now c.args.objects.now c.requires.made;
      did = refl;
      done = refl;
    }

pub loop-m-preserved : goal.loop-m-preserved
loop-m-preserved g c =
    let some : c.step.result ≡ Ok true = cc in
    let was = c.loop-m.invariant in
    let m = c.loop-m.m in
    let more : suc m ≡ m + 1 = omega arith in
    let start = c.args.self.now in
    let one = subst (λ (s : List Line). Advances s c.args.t c.args.k c.loop-m.self.trace c.step.new.self.trace) was.runs.script (c.step.ensures.did some).some in
    record {
      goes = steps_then g.D.Disk.faults g.D.Disk.honest g.D.Disk.image c.args.log.now c.loop-m.log c.step.new.log start c.loop-m.self c.step.new.self was.goes c.step.ensures.goes;
      runs = runs_then g.D.Disk.faults g.D.Disk.honest g.D.Disk.image g.D.Disk.obeys g.D.Disk.seen c.args.log.now c.loop-m.log c.step.new.log start c.loop-m.self c.step.new.self was.runs c.in_ok-step.ensures.runs;
      heard = hears_then g.O.Objects.is_for g.O.Objects.reached c.args.self.now c.loop-m.self c.step.new.self c.args.objects.now c.loop-m.objects c.step.new.objects c.loop-m.invariant.heard c.in_ok-step.ensures.heard;
      did = subst (λ (i : ℕ). HasStepped c.args.t.value c.args.k i (state_of c.args.t start.worlds).world (state_of c.args.t c.step.new.self.worlds).world) more
          ((c.step.ensures.did some).stepped m (state_of c.args.t start.worlds).world was.did);
      done = subst (λ (i : ℕ). StepsDone start.script c.args.t c.args.k i start.trace c.step.new.self.trace) more
          (steps-more start.script c.args.t c.args.k m start.trace c.loop-m.self.trace c.step.new.self.trace was.done one);
    }

pub returns-in_err-step-clause-goes : goal.returns-in_err-step-clause-goes
returns-in_err-step-clause-goes g c = steps_then g.D.Disk.faults g.D.Disk.honest g.D.Disk.image c.args.log.now c.loop-m.log c.step.new.log c.args.self.now c.loop-m.self c.step.new.self c.loop-m.invariant.goes c.step.ensures.goes

pub returns-then-not-branch-clause-goes : goal.returns-then-not-branch-clause-goes
returns-then-not-branch-clause-goes g c = steps_then g.D.Disk.faults g.D.Disk.honest g.D.Disk.image c.args.log.now c.loop-m.log c.step.new.log c.args.self.now c.loop-m.self c.step.new.self c.loop-m.invariant.goes c.step.ensures.goes

pub returns-then-not-branch-clause-runs : goal.returns-then-not-branch-clause-runs
returns-then-not-branch-clause-runs g c = runs_then g.D.Disk.faults g.D.Disk.honest g.D.Disk.image g.D.Disk.obeys g.D.Disk.seen c.args.log.now c.loop-m.log c.step.new.log c.args.self.now c.loop-m.self c.step.new.self c.loop-m.invariant.runs c.in_ok-step.ensures.runs

pub returns-then-not-branch-clause-did : goal.returns-then-not-branch-clause-did
returns-then-not-branch-clause-did g c =
    let done : c.step.result ≡ Ok false = cc in
    let t = c.args.t in
    subst (λ (r : RunState). HasDone t.value (state_of t r.worlds).world c.args.k c.args.n c.loop-m.m) (sym (c.step.ensures.unchanged done).0)
    (did_some t.value c.args.k c.args.n c.loop-m.m (state_of t c.args.self.now.worlds).world (state_of t c.loop-m.self.worlds).world c.loop-m-test.true c.loop-m.invariant.did (c.step.ensures.none done).none)

pub returns-then-not-branch-clause-done : goal.returns-then-not-branch-clause-done
returns-then-not-branch-clause-done g c =
    let done : c.step.result ≡ Ok false = cc in
    let s = c.args.self.now.script in
    let none : kth (pending (world_at s c.args.t (past_of c.loop-m.self.trace))) c.args.k ≡ None =
    subst (λ (r : List Line). kth (pending (world_at r c.args.t (past_of c.loop-m.self.trace))) c.args.k ≡ None) c.loop-m.invariant.runs.script (c.step.ensures.none done).none_here in
    subst (λ (r : RunState). HasDoneAt s c.args.t c.args.k c.args.n c.loop-m.m (past_of c.args.self.now.trace) (past_of r.trace)) (sym (c.step.ensures.unchanged done).0)
    (done_some s c.args.t c.args.k c.args.n c.loop-m.m c.args.self.now.trace c.loop-m.self.trace c.loop-m-test.true c.loop-m.invariant.done none)

pub returns-clause-did : goal.returns-clause-did
returns-clause-did g c =
    let t = c.args.t in
    did_all t.value c.args.k c.args.n c.loop-m.m (state_of t c.args.self.now.worlds).world (state_of t c.loop-m.self.worlds).world (omega (arith, c.loop-m-test.false, c.loop-m.auto.m-end)) c.loop-m.invariant.did

pub returns-clause-done : goal.returns-clause-done
returns-clause-done g c =
    done_all c.args.self.now.script c.args.t c.args.k c.args.n c.loop-m.m c.args.self.now.trace c.loop-m.self.trace (omega (arith, c.loop-m-test.false, c.loop-m.auto.m-end)) c.loop-m.invariant.done

pub returns-then-not-branch-clause-heard : goal.returns-then-not-branch-clause-heard
returns-then-not-branch-clause-heard g c = hears_then g.O.Objects.is_for g.O.Objects.reached c.args.self.now c.loop-m.self c.step.new.self c.args.objects.now c.loop-m.objects c.step.new.objects c.loop-m.invariant.heard c.in_ok-step.ensures.heard
