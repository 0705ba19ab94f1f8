use Rattle.std.proofs.Common.{◌≡◌, ℕ, List}
use Rattle.dtx_model.specs.Traces.{Placed}
use Rattle.dtx_model.specs.Words.{past_of}
use Rattle.world_laws.specs.Left.{steps_left}
use Rattle.replay_runs.specs.RunState.{AreSettledBelow, HearsOn, IsRoundAt, RunsOn, StepsDone, StepsGo, state_of}
use Rattle.replay_runs.proofs.replay.Run.settle.Given as goal

abbrev pub invariant-loop : goal.invariant-loop
invariant-loop g l = record {
  goes : StepsGo g.D.Disk.faults g.D.Disk.honest g.D.Disk.image l.initial.log l.log l.initial.self l.self;
  runs : RunsOn g.D.Disk.faults g.D.Disk.honest g.D.Disk.image g.D.Disk.obeys g.D.Disk.seen l.initial.log l.log l.initial.self l.self;
  heard : HearsOn g.O.Objects.is_for g.O.Objects.reached l.initial.self l.self l.initial.objects l.objects;
  done : (m : ℕ) × StepsDone l.initial.self.script l.t 1 m l.initial.self.trace l.self.trace;
  turns : (start : List Placed) → IsRoundAt l.initial.self.script start l.t.value (past_of l.initial.self.trace) → IsRoundAt l.initial.self.script start l.t.value (past_of l.self.trace);
  below : l.log.is_up ≡ l.initial.log.is_up → AreSettledBelow l.initial.self.script l.t.value (past_of l.initial.self.trace) → AreSettledBelow l.initial.self.script l.t.value (past_of l.self.trace);
}

abbrev pub decreases-loop : goal.decreases-loop
decreases-loop g l = steps_left (state_of l.t l.self.worlds).world
