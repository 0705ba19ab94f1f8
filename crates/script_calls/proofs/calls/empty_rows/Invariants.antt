use Rattle.std.proofs.Common.{◌≡◌, replicate, vec_capacity, vec_len}
use Rattle.script_calls.specs.Rows.{no_calls}
use Rattle.script_calls.proofs.calls.empty_rows.Given as goal

abbrev pub invariant-loop-t : goal.invariant-loop-t
invariant-loop-t l = (l.rows.items ≡ replicate l._t (replicate 16 no_calls)) × (vec_len l.rows ≡ l._t) × (vec_capacity l.rows ≡ 256)
