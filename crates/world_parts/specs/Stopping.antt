-- What a stop makes of the coordinator, and of the history.
use Rattle.std.specs.Prelude.{Bool, true, false, List, ◌∷◌}
use Rattle.dtx_values.specs.declared.entry.Entry.{Entry}
use Rattle.dtx_values.specs.declared.entry.Entry.TheVariants.{Stopped}
use Rattle.dtx_model.specs.Coordinated.{follow}
use Rattle.coordinator_core.specs.Kept.{Kept as CoreKept}

-- the coordinator, where it stops
abbrev pub stopped_if : Bool → CoreKept → CoreKept
stopped_if true k = record { transaction = k.transaction; state = follow k.state Stopped }
stopped_if false k = k

-- the history, where the stop is written
abbrev pub stop_if : Bool → List Entry → List Entry
stop_if true past = Stopped ∷ past
stop_if false past = past
