use Rattle.std.proofs.Common.{◌≡◌, List}
use Rattle.dtx_model.specs.Traces.{Placed}
use Rattle.dtx_model.specs.Words.{past_of}
use Rattle.replay_runs.specs.RunState.{AreSettledBelow, HearsOn, IsRoundAt, RunsOn, StepsGo}
use Rattle.replay_runs.proofs.replay.Run.settle_round.Given as goal

abbrev pub invariant-loop-n : goal.invariant-loop-n
invariant-loop-n g l = record {
  goes : StepsGo g.D.Disk.faults g.D.Disk.honest g.D.Disk.image l.initial.log l.log l.initial.self l.self;
  runs : RunsOn g.D.Disk.faults g.D.Disk.honest g.D.Disk.image g.D.Disk.obeys g.D.Disk.seen l.initial.log l.log l.initial.self l.self;
  heard : HearsOn g.O.Objects.is_for g.O.Objects.reached l.initial.self l.self l.initial.objects l.objects;
  turns : (start : List Placed) → IsRoundAt l.initial.self.script start 1 (past_of l.initial.self.trace) → IsRoundAt l.initial.self.script start l.n (past_of l.self.trace);
  settled : l.log.is_up ≡ l.initial.log.is_up → AreSettledBelow l.initial.self.script l.n (past_of l.self.trace);
}
