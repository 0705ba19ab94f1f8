use Rattle.std.proofs.Common.{◌≡◌, ◌≤◌, ◌+◌, length, map, take, drop}
use Rattle.arrayvec.specs.ArrayVec.{array_vec_len}
use Rattle.dtx_values.specs.declared.row.Row.{Row}
use Rattle.dtx_model.specs.Replies.{with_names}
use Rattle.world_parts.proofs.pending.names.Given as goal

abbrev pub invariant-loop-x : goal.invariant-loop-x
invariant-loop-x l = (l.found.items ≡ map (λ (x : Row). x.number) (take l.x-index l.rows)) × (array_vec_len l.found ≡ l.x-index)

abbrev pub invariant-loop-i : goal.invariant-loop-i
invariant-loop-i l =
    (l.found.items ≡ with_names (drop l.i l.branches) l.initial.found.items) × (array_vec_len l.found + l.i ≤ 48) × (l.i ≤ length l.branches)

abbrev pub decreases-loop-i : goal.decreases-loop-i
decreases-loop-i l = l.i
