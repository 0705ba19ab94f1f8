-- In a replay over a disk that obeys, a restart finds the record of the transaction whose act was stopped exactly where the armed stop leaves it.
use Rattle.std.specs.Prelude.{ℕ, ◌+◌, ◌-◌, ◌≡◌, ◌≤◌, ◌==◌, ◌⊎◌, Bool, true, false, ◌||◌, not, List, [], ◌∷◌, Option, Some, None, IfSome, IsFalse, if◌then◌else◌}
use Rattle.std.specs.Option.{option_map}
use Rattle.outside.specs.Faults.{Rose}
use Rattle.dtx_values.specs.declared.Image.{Image}
use Rattle.dtx_values.specs.declared.entry.Entry.{Entry}
use Rattle.dtx_values.specs.declared.entry.Entry.TheVariants.{LogWord, Restarted, Stopped}
use Rattle.dtx_values.specs.declared.entry.LogNote.TheVariants.{Armed}
use Rattle.dtx_values.specs.declared.trace.Place.TheVariants.{Log, Transaction}
use Rattle.dtx_model.specs.Words.{always, latest, same}
use Rattle.dtx_model.specs.AtLog.{at_log, is_called, made}
use Rattle.dtx_model.specs.Coordinated.{coordinate, may_log}
use Rattle.dtx_model.specs.Promotes.{identifier_of}
use Rattle.dtx_model.specs.Traces.{Placed, history}
use Rattle.coordinator_log.specs.State.{LogState}
use Rattle.coordinator_log.specs.Stop.{is_found_after_append, is_found_after_free}
use Rattle.coordinator_log.specs.declared.stop.ArmedStop.{ArmedStop}
use Rattle.world_parts.specs.Found.{HasRecord}

-- a stop was armed: at which device call, and with which image
abbrev pub arming : Entry → Option (ℕ × Image)
arming (LogWord (Armed n i)) = Some (n, i)
arming _ = None

-- whether a stop that was armed so leaves the record of an append, or of a free, before which so many device calls were made since then
abbrev pub leaves_record : Bool → ℕ → Option (ℕ × Image) → Bool
leaves_record appends before (Some (n, i)) = if appends then is_found_after_append i (n - before - 1) else is_found_after_free i
leaves_record appends before None = false

-- whether the record of transaction t is there after the last stop that was armed has stopped its act, where this trace goes up to that stop
abbrev pub is_left : ℕ → List Placed → Bool
is_left t past = leaves_record (may_log (coordinate (history t past))) (made past) (latest arming (at_log past))

-- the newest entry is a stop of the log that no restart made, so the act of a transaction did
abbrev pub is_by_act : List Placed → Bool
is_by_act ((Log, Stopped) ∷ past) = not (is_called (at_log past))
is_by_act _ = false

-- which transaction's act was stopped by the last stop of the log, and whether its record is there then; none where a restart stopped the log
abbrev pub left_after : List Placed → Placed → Option (ℕ × Bool) → Option (ℕ × Bool)
left_after past (Log, Stopped) left = None
left_after past (Transaction t, Stopped) left = if is_by_act past then Some (t.value, is_left t.value past) else left
left_after past _ left = left

abbrev pub left_by : List Placed → Option (ℕ × Bool)
left_by [] = None
left_by (x ∷ past) = left_after past x (left_by past)

-- where it was the act of transaction t that was stopped, its record is found exactly where it is there
abbrev pub is_found_as : Option (ℕ × Bool) → ℕ → Bool → Bool
is_found_as (Some (u, is_there)) t found = not (u == t) || same is_there found
is_found_as None t found = true

abbrev pub finds_right : List Placed → Placed → Bool
finds_right past (Transaction t, Restarted found) = is_found_as (left_by past) t.value found
finds_right past _ = true

-- so each restart of the trace finds it, newest first
abbrev pub finds_as_wished : List Placed → Bool
finds_as_wished T = always finds_right T

-- an armed stop as a trace counts it in which so many device calls were made since it was armed: its device call, and its image
abbrev pub wished_at : ℕ → Option ArmedStop → Option (ℕ × Image)
wished_at before o = option_map (λ s. (before + (s.passes + 1), s.image)) o

-- What the log has of what the trace T tells of its stops: the stop that is armed there, if one is, is the last that was armed in the trace; while the log is down, its disk has the record of the transaction
-- whose act was stopped exactly where the stop left it; and each restart found it so. The trace doesn't end between the stop of the log and that of the transaction whose act stopped it.
pub record IsFoundIn {D : Type 0} (seen : D → List ℕ) (log : LogState D) (T : List Placed) : Type 0 where
  pub ended : is_by_act T ≡ false
  pub armed : (log.armed ≡ None) ⊎ (latest arming (at_log T) ≡ wished_at (made T) log.armed)
  pub left : IsFalse log.is_up → IfSome (left_by T) (λ x. HasRecord (seen log.disk) (identifier_of x.0) x.1)
  pub found : finds_as_wished T ≡ true

-- So it is unless a fault came since the log was `start`.
pub record Finds {D : Type 0} (faults : D → ℕ) (seen : D → List ℕ) (start log : LogState D) (T : List Placed) : Type 0 where
  pub grows : faults start.disk ≤ faults log.disk
  pub found : Rose (faults start.disk) (faults log.disk) ⊎ IsFoundIn seen log T
