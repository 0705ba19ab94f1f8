use Rattle.std.proofs.Common.{◌≡◌, ◌≤◌, [], drop, length, false, is_some}
use Rattle.std.specs.List.{flat_map}
use Rattle.dtx_values.specs.Outgoing.{written}
use Rattle.dtx_values.specs.TxIds.{number_of}
use Rattle.dtx_values.specs.Table.{how_many}
use Rattle.dtx_model.specs.Half.{given}
use Rattle.dtx_model.specs.Waiting.{is_place}
use Rattle.half_parts.specs.Half.{after}
use Rattle.local_half.proofs.half.LocalHalf.give_all.Given as goal

abbrev pub invariant-loop-n : goal.invariant-loop-n
invariant-loop-n l =
    (is_some l.self.half.seen.decided ≡ false)
    × (l.self.transaction ≡ l.initial.self.transaction)
    × (after [] l.self (flat_map (given (number_of l.initial.self.transaction)) (drop l.i l.self.half.waits)) ≡ after [] l.initial.self (flat_map (given (number_of l.initial.self.transaction)) l.initial.self.half.waits))
    × (written l.out (flat_map (given (number_of l.initial.self.transaction)) (drop l.i l.self.half.waits)) ≡ written l.initial.out (flat_map (given (number_of l.initial.self.transaction)) l.initial.self.half.waits))
    × (length (drop l.i l.self.half.waits) ≤ l.out.room)
    × (how_many is_place (drop l.i l.self.half.waits) ≤ l.out.send_room)

abbrev pub decreases-loop-n : goal.decreases-loop-n
decreases-loop-n l = length (drop l.i l.self.half.waits)
