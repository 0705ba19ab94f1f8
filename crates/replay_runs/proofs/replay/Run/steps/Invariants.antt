use Rattle.dtx_model.specs.Caused.{HasStepped}
use Rattle.replay_runs.specs.RunState.{HearsOn, RunsOn, StepsDone, StepsGo, state_of}
use Rattle.replay_runs.proofs.replay.Run.steps.Given as goal

abbrev pub invariant-loop-m : goal.invariant-loop-m
invariant-loop-m g l = record {
  goes : StepsGo g.D.Disk.faults g.D.Disk.honest g.D.Disk.image l.initial.log l.log l.initial.self l.self;
  runs : RunsOn g.D.Disk.faults g.D.Disk.honest g.D.Disk.image g.D.Disk.obeys g.D.Disk.seen l.initial.log l.log l.initial.self l.self;
  heard : HearsOn g.O.Objects.is_for g.O.Objects.reached l.initial.self l.self l.initial.objects l.objects;
  did : HasStepped l.t.value l.k l.m (state_of l.t l.initial.self.worlds).world (state_of l.t l.self.worlds).world;
  done : StepsDone l.initial.self.script l.t l.k l.m l.initial.self.trace l.self.trace;
}
