use Rattle.std.proofs.Common.{◌≡◌, length}
use Rattle.kv_resource.specs.Store.{in_doubt, open_records}
use Rattle.kv_resource.proofs.doubts.next_of.Given as goal

abbrev pub invariant-loop-first : goal.invariant-loop-first
invariant-loop-first l = in_doubt (open_records l.rest) ≡ in_doubt (open_records l.slots)

abbrev pub decreases-loop-first : goal.decreases-loop-first
decreases-loop-first l = length l.rest
