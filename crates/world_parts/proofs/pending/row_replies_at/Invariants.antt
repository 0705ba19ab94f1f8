use Rattle.std.proofs.Common.{◌≡◌, ◌+◌, length, take}
use Rattle.std.specs.List.{flat_map}
use Rattle.dtx_model.specs.Plans.{plan_of}
use Rattle.dtx_model.specs.Words.{past_of}
use Rattle.world_parts.proofs.ByRow.{row_step}
use Rattle.world_parts.proofs.pending.row_replies_at.Given as goal

abbrev pub invariant-loop-x : goal.invariant-loop-x
invariant-loop-x l = l.k ≡ length (flat_map (row_step (plan_of (past_of l.calls)) l.half.half.seen) (take l.x-index l.half.half.seen.table)) + l.more
