use Rattle.std.proofs.Common.{◌≡◌, vec_len, length}
use Rattle.thread_runs.proofs.running.locked.Given as goal

abbrev pub invariant-loop-r : goal.invariant-loop-r
invariant-loop-r g l = vec_len l.shared ≡ length l.yielded
