-- In a replay each stop of the log stands exactly where its device call is reached, or a fault of the disk made it.
use Rattle.std.specs.Prelude.{ℕ, Bool, true, false, ◌&&◌, ◌||◌, not, List, [], ◌∷◌, if◌then◌else◌}
use Rattle.dtx_values.specs.declared.entry.Entry.TheVariants.{Called, Freed, Logged, LogWord, Stopped}
use Rattle.dtx_values.specs.declared.entry.LogNote.TheVariants.{Armed}
use Rattle.dtx_values.specs.declared.trace.Place.TheVariants.{Log, Transaction}
use Rattle.dtx_model.specs.AtLog.{armed, at_log, is_called, is_fault_answer, is_met, is_stopped_by, is_unarmed, one_if}
use Rattle.dtx_model.specs.Traces.{Placed}

-- A stop is left over: a fault stopped the log in an act that didn't come to the device call at which it was armed, and since then no stop was armed, and no act stopped the log. It is still armed at the log,
-- but nobody knows for which call, since the trace doesn't tell how many the act made. `past` stands before the entry, newest first, and `behind` after it, oldest first.
abbrev pub left_after : List Placed → List Placed → Placed → Bool → Bool
left_after behind past (Log, Stopped) left = if is_called (at_log past) then left else not (is_unarmed (armed (at_log past)) || is_stopped_by past behind)
left_after behind past (Log, LogWord (Armed n i)) left = false
left_after behind past _ left = left

abbrev pub is_left_over : List Placed → List Placed → Bool
is_left_over behind [] = false
is_left_over behind (x ∷ past) = left_after behind past x (is_left_over (x ∷ behind) past)

-- A fault of the disk made the entry: a `stopped` at the log that is no restart's, and that neither the armed stop explains, since the act that stopped didn't come to its device call, nor one that is left over; or the answer `fault` of a restart.
abbrev pub is_fault_made : List Placed → List Placed → Placed → Bool
is_fault_made behind past (Log, Stopped) = not (is_called (at_log past) || is_stopped_by past behind || is_left_over ((Log, Stopped) ∷ behind) past)
is_fault_made behind past (Log, Called n a x) = is_fault_answer x
is_fault_made behind past _ = false

-- how many entries of the trace, newest first, faults made
abbrev pub faults_made : List Placed → List Placed → ℕ
faults_made behind [] = 0
faults_made behind (x ∷ past) = one_if (is_fault_made behind past x) (faults_made (x ∷ behind) past)

-- an append or a free that was done met no stop that is armed
abbrev pub meets_no_stop : List Placed → Placed → Bool
meets_no_stop past (Transaction t, Logged) = not (is_met past 4)
meets_no_stop past (Transaction t, Freed) = not (is_met past 2)
meets_no_stop past _ = true

-- so it is with each append and each free
abbrev pub stops_exactly : List Placed → Bool
stops_exactly [] = true
stops_exactly (x ∷ past) = meets_no_stop past x && stops_exactly past
