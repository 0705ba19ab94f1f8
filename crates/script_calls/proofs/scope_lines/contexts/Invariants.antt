use Rattle.std.proofs.Common.{◌≡◌, replicate, vec_capacity, vec_len}
use Rattle.script_calls.specs.Scoped.{nothing_open}
use Rattle.script_calls.proofs.scope_lines.contexts.Given as goal

abbrev pub invariant-loop-a : goal.invariant-loop-a
invariant-loop-a l = (l.contexts.items ≡ replicate l._a nothing_open) × (vec_len l.contexts ≡ l._a) × (vec_capacity l.contexts ≡ 16)
