use Rattle.std.proofs.Common.{◌≡◌, vec_len, length}
use Rattle.thread_runs.proofs.running.unlocked.Given as goal

abbrev pub invariant-loop-lock : goal.invariant-loop-lock
invariant-loop-lock g l = vec_len l.resources ≡ length l.yielded
