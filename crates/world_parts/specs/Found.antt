-- What a stop of the log leaves of the record of the transaction whose act it stopped.
use Rattle.std.specs.Prelude.{◌≡◌, ◌⊎◌, ℕ, Bool, List, Some, Ok, is_some, IsTrue, IsFalse, if◌then◌else◌}
use Rattle.outside.specs.Faults.{Rose}
use Rattle.dtx_model.specs.Coordinated.{Coordinated, may_log}
use Rattle.dtx_model.specs.Log.{CommitRecord, first_of, log_has}
use Rattle.coordinator_log.specs.State.{LogState}
use Rattle.coordinator_log.specs.Stop.{is_found_after_append, is_found_after_free}
use Rattle.coordinator_log.specs.declared.stop.ArmedStop.{ArmedStop}

-- whether the record is found after this stop, at which the act of the coordinator k was stopped: an append of it, or its free
abbrev pub is_found_after : Coordinated → ArmedStop → Bool
is_found_after k s = if may_log k then is_found_after_append s.image s.passes else is_found_after_free s.image

-- these bytes are a log; whether it has a record of this identifier is told
abbrev pub HasRecord : List ℕ → ℕ → Bool → Type 0
HasRecord bytes id is_there = (rs : List CommitRecord) × (log_has bytes ≡ Ok rs) × (is_some (first_of id rs) ≡ is_there)

-- Where the act of the coordinator k of the transaction with this identifier stopped the log, on which this stop was armed: unless a fault came, the disk has the record exactly where the stop leaves it.
abbrev pub IsLeftAsWished : {D : Type 0} → (D → ℕ) → (D → List ℕ) → Coordinated → ℕ → LogState D → LogState D → Type 0
IsLeftAsWished faults seen k id from to =
    IsTrue from.is_up → IsFalse to.is_up → (s : ArmedStop) → from.armed ≡ Some s → Rose (faults from.disk) (faults to.disk) ⊎ HasRecord (seen to.disk) id (is_found_after k s)
