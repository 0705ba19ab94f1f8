use Rattle.std.proofs.Common.{◌≡◌, drop}
use Rattle.dtx_model.specs.Words.{has}
use Rattle.thread_runs.specs.Threads.{found_differing}
use Rattle.thread_runs.proofs.running.threads.come_to.Given as goal

abbrev pub invariant-loop-i : goal.invariant-loop-i
invariant-loop-i l = has found_differing (drop l.i l.ends) ≡ has found_differing l.ends
