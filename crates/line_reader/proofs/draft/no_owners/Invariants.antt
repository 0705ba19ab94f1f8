use Rattle.std.proofs.Common.{◌≡◌, None, replicate, vec_capacity, vec_len}
use Rattle.dtx_values.specs.declared.number.TheConstants.EnlNo.{MAX as ENLISTMENTS}
use Rattle.line_reader.proofs.draft.no_owners.Given as goal

abbrev pub invariant-loop-slot : goal.invariant-loop-slot
invariant-loop-slot l = (l.owners.items ≡ replicate l._slot None) × (vec_len l.owners ≡ l._slot) × (vec_capacity l.owners ≡ ENLISTMENTS)
