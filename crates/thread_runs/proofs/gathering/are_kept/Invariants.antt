use Rattle.std.proofs.Common.{take}
use Rattle.std.specs.List.{All}
use Rattle.thread_runs.specs.Gathering.{IsCellOf}
use Rattle.thread_runs.proofs.gathering.are_kept.Given as goal

abbrev pub invariant-loop-state : goal.invariant-loop-state
invariant-loop-state g l = All (IsCellOf g.N.Run.script g.N.Run.objects g.N.Run.honest) (take l.state-index l.states)
