use Rattle.std.proofs.Common.{◌≡◌, drop, max}
use Rattle.std.specs.List.{filter_map}
use Rattle.std.specs.Option.{option_map}
use Rattle.dtx_model.specs.Log.{record_of}
use Rattle.log_epochs.specs.Epochs.{epoch_of}
use Rattle.log_epochs.proofs.finding.greatest.Given as goal

-- with the slots to come it is the greatest of all
abbrev pub invariant-loop-slot : goal.invariant-loop-slot
invariant-loop-slot l = max l.n (epoch_of (filter_map (option_map record_of) (drop l.slot-index l.slots))) ≡ epoch_of (filter_map (option_map record_of) l.slots)
