use Rattle.std.proofs.Common.{◌≡◌, ◌+◌, length, take}
use Rattle.std.specs.List.{flat_map}
use Rattle.dtx_model.specs.Steps.{deliveries_on}
use Rattle.world_parts.proofs.pending.deliveries_at.Given as goal

abbrev pub invariant-loop-n : goal.invariant-loop-n
invariant-loop-n l = l.k ≡ length (flat_map (deliveries_on l.history.past) (take l.n-index l.ends)) + l.more
