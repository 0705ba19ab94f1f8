use Rattle.std.proofs.Common.{◌≡◌, ◌<◌, ℕ, get_or, None, true}
use Rattle.std.specs.Option.{option_map}
use Rattle.dtx_model.specs.Log.{record_of}
use Rattle.coordinator_log.specs.Slots.{open_records}
use Rattle.transactions.specs.Recovering.{is_passed}
use Rattle.transactions.proofs.recovering.next_to_free.Given as goal

-- each slot so far was passed
abbrev pub invariant-loop-slot : goal.invariant-loop-slot
invariant-loop-slot g l = (k : ℕ) → k < l.slot-index → is_passed l.desk l.lives (open_records l.log.slots) (option_map record_of (get_or l.slots k None)) ≡ true
