use Rattle.std.proofs.Common.{◌≡◌, ◌+◌, suc, List, [], true, false, Ok, None, refl, ap, subst, sym, ◌∙◌}
use Rattle.dtx_values.specs.declared.script.Line.{Line}
use Rattle.dtx_model.specs.Caused.{Settled}
use Rattle.dtx_model.specs.Replay.{world_at}
use Rattle.dtx_model.specs.Steps.{pending}
use Rattle.dtx_model.specs.Traces.{history}
use Rattle.dtx_model.specs.Words.{kth, past_of}
use Rattle.turn_parts.proofs.Settling.{none_first, up_between}
use Rattle.replay_runs.specs.RunState.{Advances, AreSettledBelow, IsRoundAt, RunState, Settles, state_of}
use Rattle.replay_runs.proofs.Going.{hears_same, hears_then, runs_same, runs_then, steps_same, steps_then}
use Rattle.replay_runs.proofs.Rounds.{below-apart, below-next, settles-here, steps-more, turn-more, turn-next}
use Rattle.replay_runs.proofs.replay.Run.settle.Given.{Over}
use Rattle.replay_runs.proofs.replay.Run.settle.Goals.{In_ok-step}
use Rattle.replay_runs.proofs.replay.Run.settle.Goals as goal

pub loop-init : goal.loop-init
loop-init g c =
    record {
      goes = steps_same g.D.Disk.faults g.D.Disk.honest g.D.Disk.image c.args.log.now c.args.self.now;
      runs = runs_same g.D.Disk.faults g.D.Disk.honest g.D.Disk.image g.D.Disk.obeys g.D.Disk.seen c.args.log.now c.args.self.now c.requires.holds;
      heard = hears_same g.O.Objects.is_for g.O.Objects.reached c.args.self.now c.args.objects.now c.requires.made;
      done = (0, refl);
      turns = λ start turn. turn;
      below = λ up below. below;
    }

pub loop-preserved : goal.loop-preserved
loop-preserved g c =
    let some : c.step.result ≡ Ok true = cc in
    let was = c.loop.invariant in
    let start = c.args.self.now in
    let s = start.script in
    let one : Advances s c.args.t 1 c.loop.self.trace c.step.new.self.trace =
    subst (λ (r : List Line). Advances r c.args.t 1 c.loop.self.trace c.step.new.self.trace) was.runs.script (c.step.ensures.did some).some in
    record {
      goes = steps_then g.D.Disk.faults g.D.Disk.honest g.D.Disk.image c.args.log.now c.loop.log c.step.new.log start c.loop.self c.step.new.self was.goes c.step.ensures.goes;
      runs = runs_then g.D.Disk.faults g.D.Disk.honest g.D.Disk.image g.D.Disk.obeys g.D.Disk.seen c.args.log.now c.loop.log c.step.new.log start c.loop.self c.step.new.self was.runs c.in_ok-step.ensures.runs;
      heard = hears_then g.O.Objects.is_for g.O.Objects.reached c.args.self.now c.loop.self c.step.new.self c.args.objects.now c.loop.objects c.step.new.objects c.loop.invariant.heard c.in_ok-step.ensures.heard;
      done = (suc was.done.0, steps-more s c.args.t 1 was.done.0 start.trace c.loop.self.trace c.step.new.self.trace was.done.1 one);
      turns = λ first turn. turn-more s first c.args.t c.loop.self.trace c.step.new.self.trace (was.turns first turn) one;
      below = λ up below.
          let mid = up_between c.args.log.now.is_up c.loop.log.is_up c.step.new.log.is_up was.goes.stays.still c.step.ensures.goes.stays.still up in
          below-apart s c.args.t (past_of c.loop.self.trace) (past_of c.step.new.self.trace) ((c.step.ensures.did some).apart (up ∙ sym mid)) (was.below mid below);
    }

pub returns-in_err-step-clause-goes : goal.returns-in_err-step-clause-goes
returns-in_err-step-clause-goes g c = steps_then g.D.Disk.faults g.D.Disk.honest g.D.Disk.image c.args.log.now c.loop.log c.step.new.log c.args.self.now c.loop.self c.step.new.self c.loop.invariant.goes c.step.ensures.goes

pub returns-then-not-branch-clause-goes : goal.returns-then-not-branch-clause-goes
returns-then-not-branch-clause-goes g c = steps_then g.D.Disk.faults g.D.Disk.honest g.D.Disk.image c.args.log.now c.loop.log c.step.new.log c.args.self.now c.loop.self c.step.new.self c.loop.invariant.goes c.step.ensures.goes

-- Where no first step is pending, t is settled.
settled_there : (g : Over) (c : In_ok-step g) → c.step.result ≡ Ok false → Settled c.args.self.now.script (history c.args.t.value (past_of c.loop.self.trace))
settled_there g c done =
    let s = c.args.self.now.script in
    let none : kth (pending (world_at s c.args.t (past_of c.loop.self.trace))) 1 ≡ None =
    subst (λ (r : List Line). kth (pending (world_at r c.args.t (past_of c.loop.self.trace))) 1 ≡ None) c.loop.invariant.runs.script (c.step.ensures.none done).none_here in
    none_first (pending (world_at s c.args.t (past_of c.loop.self.trace))) none

pub returns-then-not-branch-clause-runs : goal.returns-then-not-branch-clause-runs
returns-then-not-branch-clause-runs g c = runs_then g.D.Disk.faults g.D.Disk.honest g.D.Disk.image g.D.Disk.obeys g.D.Disk.seen c.args.log.now c.loop.log c.step.new.log c.args.self.now c.loop.self c.step.new.self c.loop.invariant.runs c.in_ok-step.ensures.runs

pub returns-then-not-branch-clause-settled : goal.returns-then-not-branch-clause-settled
returns-then-not-branch-clause-settled g c =
    let done : c.step.result ≡ Ok false = cc in
    let t = c.args.t in
    subst (λ (r : RunState). pending (state_of t r.worlds).world ≡ []) (sym (c.step.ensures.unchanged done).0) (none_first (pending (state_of t c.loop.self.worlds).world) (c.step.ensures.none done).none)

pub returns-then-not-branch-clause-done : goal.returns-then-not-branch-clause-done
returns-then-not-branch-clause-done g c =
    let done : c.step.result ≡ Ok false = cc in
    let start = c.args.self.now in
    let did = c.loop.invariant.done in
    subst (λ (r : RunState). Settles start.script c.args.t start.trace r.trace) (sym (c.step.ensures.unchanged done).0)
    (settles-here start.script c.args.t did.0 start.trace c.loop.self.trace did.1 (settled_there g (goal.at.returns-then-not-branch-clause-done g c).In_ok-step done))

pub returns-then-not-branch-clause-turns : goal.returns-then-not-branch-clause-turns
returns-then-not-branch-clause-turns g c =
    let done : c.step.result ≡ Ok false = cc in
    let s = c.args.self.now.script in
    let settled = settled_there g (goal.at.returns-then-not-branch-clause-turns g c).In_ok-step done in
    λ first turn.
    subst (λ (r : RunState). IsRoundAt s first (c.args.t.value + 1) (past_of r.trace)) (sym (c.step.ensures.unchanged done).0)
    (turn-next s first c.args.t (past_of c.loop.self.trace) (c.loop.invariant.turns first turn) settled)

pub returns-then-not-branch-clause-below : goal.returns-then-not-branch-clause-below
returns-then-not-branch-clause-below g c =
    let done : c.step.result ≡ Ok false = cc in
    let s = c.args.self.now.script in
    let settled = settled_there g (goal.at.returns-then-not-branch-clause-below g c).In_ok-step done in
    let same = c.step.ensures.unchanged done in
    λ up below.
    subst (λ (r : RunState). AreSettledBelow s (c.args.t.value + 1) (past_of r.trace)) (sym same.0)
    (below-next s c.args.t (past_of c.loop.self.trace) (c.loop.invariant.below (sym (ap (λ l. l.is_up) same.1) ∙ up) below) settled)

pub returns-then-not-branch-clause-heard : goal.returns-then-not-branch-clause-heard
returns-then-not-branch-clause-heard g c = hears_then g.O.Objects.is_for g.O.Objects.reached c.args.self.now c.loop.self c.step.new.self c.args.objects.now c.loop.objects c.step.new.objects c.loop.invariant.heard c.in_ok-step.ensures.heard
