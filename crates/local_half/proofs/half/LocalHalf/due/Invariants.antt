use Rattle.std.proofs.Common.{◌≡◌, ◌≤◌, map, drop, length}
use Rattle.dtx_values.specs.declared.row.Row.{Row}
use Rattle.dtx_model.specs.Replies.{with_names}
use Rattle.half_parts.specs.Half.{first_due}
use Rattle.local_half.proofs.half.LocalHalf.due.Given as goal

abbrev pub invariant-loop-i : goal.invariant-loop-i
invariant-loop-i l =
    (l.i ≤ length l.self.half.seen.branches)
    × (l.first ≡ first_due l.self.half.seen (with_names (drop l.i l.self.half.seen.branches) (map (λ (x : Row). x.number) l.self.half.seen.table)))

abbrev pub decreases-loop-i : goal.decreases-loop-i
decreases-loop-i l = l.i
