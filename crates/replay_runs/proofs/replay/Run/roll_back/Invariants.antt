use Rattle.std.proofs.Common.{◌≡◌, ◌+◌, take}
use Rattle.dtx_model.specs.Replay.{after_calls}
use Rattle.dtx_model.specs.Words.{past_of}
use Rattle.replay_runs.specs.RunState.{AreBelow, HearsOn, RunsOn}
use Rattle.script_calls.specs.Scoped.{rollbacks, rolled_at}
use Rattle.replay_runs.proofs.RollingBack.{AreStillBelow}
use Rattle.replay_runs.proofs.replay.Run.roll_back.Given as goal

abbrev pub invariant-loop-i : goal.invariant-loop-i
invariant-loop-i g l = record {
  contexts : l.self.contexts ≡ l.initial.self.contexts;
  runs : RunsOn g.D.Disk.faults g.D.Disk.honest g.D.Disk.image g.D.Disk.obeys g.D.Disk.seen l.log l.log l.initial.self l.self;
  heard : HearsOn g.O.Objects.is_for g.O.Objects.reached l.initial.self l.self l.initial.objects l.objects;
  entered : AreBelow (l.n + 1) l.self.worlds;
  still : AreStillBelow l.n l.i (rolled_at l.actor l.initial.self.contexts) l.self.worlds;
  done : past_of l.self.trace ≡ after_calls l.initial.self.script l.n l.actor (rollbacks (take l.i (rolled_at l.actor l.initial.self.contexts))) (past_of l.initial.self.trace);
}
