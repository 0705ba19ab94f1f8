use Rattle.std.proofs.Common.{◌≡◌, drop}
use Rattle.std.specs.Prelude.{slice_get}
use Rattle.kv_resource.specs.Held.{holdings_from}
use Rattle.kv_resource.proofs.holdings.held_at.Given as goal

abbrev pub invariant-loop-k : goal.invariant-loop-k
invariant-loop-k l = slice_get (holdings_from l.earlier l.k (drop l.k l.slots)) l.left ≡ slice_get (holdings_from l.earlier 0 l.slots) l.place
