use Rattle.std.proofs.Common.{◌≤◌}
use Rattle.thread_runs.proofs.running.threads.highest_in.Given as goal

abbrev pub invariant-loop-due : goal.invariant-loop-due
invariant-loop-due l = l.highest ≤ 16
