use Rattle.std.proofs.Common.{◌≡◌, List, ap, inr, subst, sym, ◌∙◌}
use Rattle.dtx_values.specs.declared.entry.Answer.TheVariants.{Fine}
use Rattle.dtx_values.specs.declared.entry.Entry.TheVariants.{Called, LogWord}
use Rattle.dtx_values.specs.declared.entry.LogNote.TheVariants.{Armed}
use Rattle.dtx_model.specs.Words.{past_of}
use Rattle.dtx_model.specs.Replay.{at_the_log}
use Rattle.dtx_model.specs.Traces.{Placed}
use Rattle.coordinator_log.specs.State.{LogState}
use Rattle.replay_runs.specs.Found.{Finds}
use Rattle.replay_runs.specs.RunState.{RunState, Tells}
use Rattle.replay_runs.proofs.Reopening.{goes_armed, holds_armed, two_written}
use Rattle.replay_runs.proofs.Finding.{finds_on, found_armed}
use Rattle.replay_runs.proofs.Telling.{tells_armed}
use Rattle.replay_runs.proofs.replay.Run.arm.Given.{Over}
use Rattle.replay_runs.proofs.replay.Run.arm.Goals.{After-arm}
use Rattle.replay_runs.proofs.replay.Run.arm.Goals as goal

-- what the trace has then
written : (g : Over) (c : After-arm g)
    → past_of c.push_reserved-2.new.self.items ≡ at_the_log (LogWord (Armed c.args.k c.args.image)) (at_the_log (Called c.args.n c.args.actor Fine) (past_of c.args.self.now.trace))
written g c =
    two_written c.args.self.now.trace c.reserve.new.self.items c.push_reserved.new.self.items c.push_reserved-2.new.self.items (Called c.args.n c.args.actor Fine) (LogWord (Armed c.args.k c.args.image))
    (c.in_ok-reserve.ensures.items ∙ ap (λ (r : RunState). r.trace) c.self.view_is) c.push_reserved.ensures.items c.push_reserved-2.ensures.items

pub returns-clause-runs : goal.returns-clause-runs
returns-clause-runs g c =
    let from = c.args.log.now in
    let to = c.arm.new.self in
    let r = c.args.self.now in
    let wrote = written g (goal.at.returns-clause-runs g c).After-arm in
    let goes = goes_armed g.D.Disk.faults g.D.Disk.honest g.D.Disk.image from to c.args.k c.args.image c.arm.ensures in
    let script = ap (λ (q : RunState). q.script) c.self.view_is in
    let objects = ap (λ (q : RunState). q.objects) c.self.view_is in
    record {
      script = script;
      objects = objects;
      holds = holds_armed g.D.Disk.honest g.D.Disk.image from to r _ c.args.n c.args.actor c.args.k c.args.image c.arm.ensures script objects (ap (λ (q : RunState). q.worlds) c.self.view_is) wrote c.requires.holds;
      tells = λ start told.
          subst (λ (T : List Placed). Tells g.D.Disk.faults g.D.Disk.honest g.D.Disk.image start to T) (sym wrote)
          (tells_armed g.D.Disk.faults g.D.Disk.honest g.D.Disk.image start from to (past_of r.trace) c.args.n c.args.actor c.args.k c.args.image c.requires.first goes (ap (λ (l : LogState g.row.D.Denot). g.D.Disk.faults l.disk) c.arm.ensures)
          (ap (λ (l : LogState g.row.D.Denot). l.armed) c.arm.ensures) told);
      finds = λ is start found.
          subst (λ (T : List Placed). Finds g.D.Disk.faults g.D.Disk.seen start to T) (sym wrote)
          (finds_on g.D.Disk.faults g.D.Disk.seen start from to (past_of r.trace) (at_the_log (LogWord (Armed c.args.k c.args.image)) (at_the_log (Called c.args.n c.args.actor Fine) (past_of r.trace))) goes.grows
          (λ f. inr (found_armed g.D.Disk.seen from to (past_of r.trace) c.args.n c.args.actor c.args.k c.args.image c.requires.first c.arm.ensures f)) found);
    }
