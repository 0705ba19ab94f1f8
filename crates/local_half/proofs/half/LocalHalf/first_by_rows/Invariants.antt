use Rattle.std.proofs.Common.{◌≡◌, drop, Some}
use Rattle.std.specs.List.{filter_map}
use Rattle.dtx_model.specs.Replies.{note_at, with_note}
use Rattle.local_half.proofs.half.LocalHalf.first_by_rows.Given as goal

abbrev pub invariant-loop-x : goal.invariant-loop-x
invariant-loop-x l =
    filter_map (λ x. with_note x.number (note_at l.self.half.seen x.number.value (Some x))) l.self.half.seen.table
    ≡ filter_map (λ x. with_note x.number (note_at l.self.half.seen x.number.value (Some x))) (drop l.x-index l.x-items)
