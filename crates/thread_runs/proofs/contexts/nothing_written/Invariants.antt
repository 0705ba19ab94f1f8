use Rattle.std.proofs.Common.{◌≡◌, [], map, replicate, vec_capacity, vec_len}
use Rattle.thread_runs.proofs.contexts.nothing_written.Given as goal

abbrev pub invariant-loop-a : goal.invariant-loop-a
invariant-loop-a l = (map (λ h. h.items) l.written.items ≡ replicate l._a []) × (vec_len l.written ≡ l._a) × (vec_capacity l.written ≡ 16)
