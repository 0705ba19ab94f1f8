use Rattle.std.proofs.Common.{◌≡◌, ◌≤◌, ◌+◌, false, take}
use Rattle.dtx_model.specs.Replay.{LinesRan}
use Rattle.dtx_model.specs.Words.{past_of}
use Rattle.replay_runs.specs.LogRun.{LogGoes, LogStays}
use Rattle.replay_runs.specs.RunState.{AreBelow, HearsOn, RunsOn}
use Rattle.script_calls.specs.Scoped.{AreOpen}
use Rattle.replay_runs.proofs.replay.Run.lines.Given as goal
use Rattle.dtx_model.specs.AtLog.{has_log_line}

abbrev pub invariant-loop-l : goal.invariant-loop-l
invariant-loop-l g l = record {
  count : l.n ≡ l.l-index;
  log : LogGoes g.D.Disk.faults g.D.Disk.honest g.D.Disk.image l.initial.log l.log;
  stays : has_log_line l.initial.self.script ≡ false → LogStays g.D.Disk.faults l.initial.log l.log;
  life : l.log.life ≤ l.initial.log.life + l.l-index;
  runs : RunsOn g.D.Disk.faults g.D.Disk.honest g.D.Disk.image g.D.Disk.obeys g.D.Disk.seen l.initial.log l.log l.initial.self l.self;
  heard : HearsOn g.O.Objects.is_for g.O.Objects.reached l.initial.self l.self l.initial.objects l.objects;
  below : AreBelow (l.n + 1) l.self.worlds;
  open_at : AreOpen l.self.contexts (past_of (take l.l-index l.lines));
  ran : LinesRan l.initial.self.script (past_of (take l.l-index l.lines)) (past_of l.self.trace);
}
