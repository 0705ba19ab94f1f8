use Rattle.std.proofs.Common.{◌≡◌, replicate, vec_capacity, vec_len}
use Rattle.script_calls.specs.Rows.{no_calls}
use Rattle.script_calls.proofs.rows.Rows.new.Given as goal

abbrev pub invariant-loop-a : goal.invariant-loop-a
invariant-loop-a g l = (l.rows.items ≡ replicate l._a no_calls) × (vec_len l.rows ≡ l._a) × (vec_capacity l.rows ≡ 16)
