use Rattle.std.proofs.Common.{◌≡◌, ◌++◌, drop, take}
use Rattle.thread_runs.specs.Threads.{before_line}
use Rattle.thread_runs.proofs.running.threads.split_at_par.Given as goal

abbrev pub invariant-loop-i : goal.invariant-loop-i
invariant-loop-i l = before_line l.par l.to_do ≡ take l.i l.to_do ++ before_line l.par (drop l.i l.to_do)
