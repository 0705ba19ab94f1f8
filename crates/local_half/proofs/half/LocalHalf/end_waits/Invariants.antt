use Rattle.std.proofs.Common.{◌≡◌, ◌≤◌, [], length, true, is_some}
use Rattle.dtx_values.specs.Outgoing.{written}
use Rattle.dtx_model.specs.Half.{ended}
use Rattle.half_parts.specs.Half.{after}
use Rattle.local_half.proofs.half.LocalHalf.end_waits.Given as goal

abbrev pub invariant-loop-n : goal.invariant-loop-n
invariant-loop-n l =
    (is_some l.self.half.seen.decided ≡ true)
    × (after [] l.self (ended l.self.half.waits l.o) ≡ after [] l.initial.self (ended l.initial.self.half.waits l.o))
    × (written l.out (ended l.self.half.waits l.o) ≡ written l.initial.out (ended l.initial.self.half.waits l.o))
    × (length l.self.half.waits ≤ l.out.room)

abbrev pub decreases-loop-n : goal.decreases-loop-n
decreases-loop-n l = length l.self.half.waits
