use Rattle.std.proofs.Common.{◌≡◌, ◌<◌, ◌≤◌, List, arith, get_or, length, refl, take_all, subst, ap, sym, ◌+◌, ◌∙◌}
use Rattle.dtx_values.specs.declared.number.TxNo.{TxNo}
use Rattle.dtx_values.specs.declared.call.Call.TheVariants.{Rollback}
use Rattle.dtx_values.specs.declared.script.Line.{Line}
use Rattle.dtx_model.specs.Caused.{IsCallOf}
use Rattle.dtx_model.specs.Replay.{after_calls, after_turn}
use Rattle.dtx_model.specs.Steps.{Calls}
use Rattle.dtx_model.specs.Words.{past_of}
use Rattle.replay_runs.specs.RunState.{RunState}
use Rattle.script_calls.specs.Scoped.{rollbacks, rolled_at}
use Rattle.replay_runs.proofs.Entering.{all_below, all_below_next}
use Rattle.replay_runs.proofs.Going.{hears_same, hears_then, runs_same, runs_then}
use Rattle.script_calls.proofs.Openings.{rolled_here, rolled_more}
use Rattle.replay_runs.proofs.RollingBack.{IsAt, at_place, rolled_there, still_below}
use Rattle.replay_runs.proofs.replay.Run.roll_back.Given.{Over}
use Rattle.replay_runs.proofs.replay.Run.roll_back.Goals.{After-rolled}
use Rattle.replay_runs.proofs.replay.Run.roll_back.Goals as goal

pub loop-i-init : goal.loop-i-init
loop-i-init g c = record {
  contexts = refl;
  runs = runs_same g.D.Disk.faults g.D.Disk.honest g.D.Disk.image g.D.Disk.obeys g.D.Disk.seen c.args.log.now c.args.self.now c.requires.holds;
  heard = hears_same g.O.Objects.is_for g.O.Objects.reached c.args.self.now c.args.objects.now c.requires.made;
  entered = all_below_next c.args.n c.args.self.now.worlds c.requires.below;
  still = λ j u less e. c.requires.below u;
  done = refl;
}

-- the transaction that is read at the place that the loop has come to
here : (g : Over) (c : After-rolled g) (t : TxNo) → t ≡ get_or c.rolled.result.now c.loop-i.i t → IsAt (rolled_at c.args.actor c.args.self.now.contexts) c.loop-i.i t
here g c t is =
    let cs = c.args.self.now.contexts in
    let actor = c.args.actor in
    let first =
    rolled_here c.self.inside.contexts.items cs actor c.index-place.result c.index.result.now c.rolled-i-end.result.now c.self.invariant.1 c.index-place.ensures.place c.index.ensures
    c.rolled-i-end.ensures (ap (λ (r : RunState). r.contexts) c.self.view_is) in
    let now =
    rolled_here c.self-in-loop-i.inside.contexts.items cs actor c.index-place.result c.index-in-loop-i.result.now c.rolled.result.now c.self-in-loop-i.invariant.1 c.index-place.ensures.place
    c.index-in-loop-i.ensures c.rolled.ensures (ap (λ (r : RunState). r.contexts) c.self-in-loop-i.view_is ∙ c.loop-i.invariant.contexts) in
    at_place (rolled_at actor cs) c.rolled.result.now c.loop-i.i t now (subst (λ (us : List TxNo). c.loop-i.i < length us) first c.loop-i-test.true) is

pub call-requires-clause-given : goal.call-requires-clause-given
call-requires-clause-given g c =
    let t = c.index-rolled-i.result in
    let at = here g (goal.at.call-requires-clause-given g c).After-rolled t c.index-rolled-i.is in
    subst (λ (s : List Line). IsCallOf s t.value c.args.n c.args.actor (Rollback t)) (sym c.loop-i.invariant.runs.script)
    (c.requires.given t (Rollback t) c.loop-i.i (rolled_there (rolled_at c.args.actor c.args.self.now.contexts) c.loop-i.i t at.slot))

pub call-requires-clause-below : goal.call-requires-clause-below
call-requires-clause-below g c =
    let at = here g (goal.at.call-requires-clause-below g c).After-rolled c.index-rolled-i.result c.index-rolled-i.is in
    c.loop-i.invariant.still c.loop-i.i c.index-rolled-i.result (omega arith) at.slot

pub loop-i-preserved : goal.loop-i-preserved
loop-i-preserved g c =
    let ts = rolled_at c.args.actor c.args.self.now.contexts in
    let s = c.args.self.now.script in
    let i = c.loop-i.i in
    let t = c.index-rolled-i.result in
    let at = here g (goal.at.loop-i-preserved g c).After-rolled t c.index-rolled-i.is in
    let was = c.loop-i.invariant in
    let did = c.in_ok-call.ensures in
    record {
      contexts = c.call.ensures.contexts ∙ was.contexts;
      runs = runs_then g.D.Disk.faults g.D.Disk.honest g.D.Disk.image g.D.Disk.obeys g.D.Disk.seen c.args.log.now c.args.log.now c.args.log.now c.args.self.now c.loop-i.self c.call.new.self was.runs did.runs;
      heard = hears_then g.O.Objects.is_for g.O.Objects.reached c.args.self.now c.loop-i.self c.call.new.self c.args.objects.now c.loop-i.objects c.call.new.objects c.loop-i.invariant.heard c.in_ok-call.ensures.heard;
      entered = all_below (c.args.n + 1) t c.loop-i.self.worlds c.call.new.self.worlds c.call.ensures.others did.entered was.entered;
      still = still_below c.args.n i ts t c.loop-i.self.worlds c.call.new.self.worlds c.requires.once at.slot c.call.ensures.others was.still;
      done =
          rolled_more s c.args.n c.args.actor ts i t (past_of c.args.self.now.trace) (past_of c.loop-i.self.trace) (past_of c.call.new.self.trace) at.less at.is was.done
          (subst (λ (r : List Line). past_of c.call.new.self.trace ≡ after_turn r t (Calls c.args.n c.args.actor (Rollback t) 0) (past_of c.loop-i.self.trace)) was.runs.script did.done);
    }

pub returns-clause-done : goal.returns-clause-done
returns-clause-done g c =
    let ts = rolled_at c.args.actor c.args.self.now.contexts in
    let first : c.rolled-i-end.result.now ≡ ts =
    rolled_here c.self.inside.contexts.items c.args.self.now.contexts c.args.actor c.index-place.result c.index.result.now c.rolled-i-end.result.now c.self.invariant.1 c.index-place.ensures.place
    c.index.ensures c.rolled-i-end.ensures (ap (λ (r : RunState). r.contexts) c.self.view_is) in
    let all : length ts ≤ c.loop-i.i = subst (λ (us : List TxNo). length us ≤ c.loop-i.i) first c.loop-i-test.false in
    subst (λ (us : List TxNo). past_of c.loop-i.self.trace ≡ after_calls c.args.self.now.script c.args.n c.args.actor (rollbacks us) (past_of c.args.self.now.trace)) (take_all c.loop-i.i ts all)
    c.loop-i.invariant.done
