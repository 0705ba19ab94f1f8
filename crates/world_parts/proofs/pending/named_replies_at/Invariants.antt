use Rattle.std.proofs.Common.{◌≡◌, ◌+◌, length, take}
use Rattle.std.specs.List.{flat_map}
use Rattle.dtx_model.specs.Plans.{plan_of}
use Rattle.dtx_model.specs.Words.{past_of}
use Rattle.dtx_model.specs.Replies.{names}
use Rattle.world_parts.specs.Pending.{reply_step}
use Rattle.world_parts.proofs.pending.named_replies_at.Given as goal

abbrev pub invariant-loop-e : goal.invariant-loop-e
invariant-loop-e l = l.k ≡ length (flat_map (reply_step (plan_of (past_of l.calls)) l.half.half.seen) (take l.e-index (names l.half.half.seen))) + l.more
