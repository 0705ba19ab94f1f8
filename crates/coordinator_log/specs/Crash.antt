-- What is found of a log after a crash.
use Rattle.std.specs.Prelude.{◌≡◌, ◌⊎◌, ℕ, List, Option, Result, Ok, OnOk}
use Rattle.std.specs.List.{insert}
use Rattle.dtx_model.specs.Log.{CommitRecord, log_has, without_first_of}
use Rattle.coordinator_log.specs.declared.refusal.LogRefusal.{LogRefusal}
use Rattle.coordinator_log.specs.Slots.{lowest_closed, open_records}
use Rattle.coordinator_log.specs.State.{LogState}

-- each of these images is a log with these records
abbrev pub AllHold : (List ℕ → Type 0) → List CommitRecord → Type 0
AllHold image records = (c : List ℕ) → image c → log_has c ≡ Ok records

-- each of these images is a log with the first records or with the second
abbrev pub AllHoldEither : (List ℕ → Type 0) → List CommitRecord → List CommitRecord → Type 0
AllHoldEither image old new = (c : List ℕ) → image c → (log_has c ≡ Ok old) ⊎ (log_has c ≡ Ok new)

-- the records with one more, whose slot is the lowest with a closed gate
abbrev pub with_record : CommitRecord → List (Option CommitRecord) → List CommitRecord
with_record r slots = insert (open_records slots) (lowest_closed slots) r

-- what a call leaves that is to turn the old records of a log into the new ones: each image has the old or the new, and after Ok the new
pub record Turns {A : Type 0} (image : List ℕ → Type 0) (old new : List CommitRecord) (result : Result A LogRefusal) : Type 0 where
  pub images : AllHoldEither image old new
  pub durable : OnOk result (AllHold image new)

-- an append of this record to a log that is up, over an honest disk, whatever it answers
abbrev pub Appends : {D : Type 0} → (D → List ℕ → Type 0) → CommitRecord → LogState D → LogState D → Result ℕ LogRefusal → Type 0
Appends image r old new result = Turns (image new.disk) (open_records old.slots) (with_record r old.slots) result

-- a free of this identifier in a log that is up, over an honest disk, whatever it answers
abbrev pub Frees : {D : Type 0} → (D → List ℕ → Type 0) → ℕ → LogState D → LogState D → Result (Unit {0}) LogRefusal → Type 0
Frees image id old new result = Turns (image new.disk) (open_records old.slots) (without_first_of id (open_records old.slots)) result

-- a log that was opened from this disk has the records of the bytes that a read gives
abbrev pub IsOpened : {D : Type 0} → (D → List ℕ) → D → LogState D → Type 0
IsOpened seen disk log = log_has (seen disk) ≡ Ok (open_records log.slots)

-- the disk is what a crash leaves of some disk: where no fault came, of one whose bytes are a log with these records
abbrev pub IsLeftOf : {D : Type 0} → (D → List ℕ → Type 0) → (D → List ℕ) → Type 0 → List CommitRecord → D → Type 0
IsLeftOf {D} leaves seen fault records disk = (d : D) × leaves d (seen disk) × (fault ⊎ (log_has (seen d) ≡ Ok records))
