use Rattle.std.proofs.Common.{◌≡◌, ◌+◌, drop}
use Rattle.kv_resource.specs.Store.{place_in}
use Rattle.kv_resource.proofs.draft.place_of.Given as goal

abbrev pub invariant-loop-i : goal.invariant-loop-i
invariant-loop-i l = place_in l.key l.writes ≡ l.i + place_in l.key (drop l.i l.writes)
