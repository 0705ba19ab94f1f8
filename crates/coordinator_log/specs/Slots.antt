-- The slots of a log, in memory and on a disk.
use Rattle.std.specs.Prelude.{◌-◌, ◌==◌, ◌++◌, ℕ, suc, Bool, false, List, [], ◌∷◌, length, replicate, Option, Some, None, Ok}
use Rattle.dtx_values.specs.declared.record.LogRecord.{LogRecord}
use Rattle.dtx_model.specs.Log.{CommitRecord, Slot, head, slots_of}
use Rattle.slotted.specs.Slotted.{AgreesBy, HasSlotsBy, IsEitherBy, IsSlotBy, held_in}
pub use Rattle.slotted.specs.Slotted.{formed}

-- the records of the slots whose gates are open, in order of slots
abbrev pub open_records : List (Option CommitRecord) → List CommitRecord
open_records ss = held_in ss

-- the number of the lowest slot whose gate is closed, or how many slots there are where none is
abbrev pub lowest_closed : List (Option CommitRecord) → ℕ
lowest_closed [] = 0
lowest_closed (None ∷ ss) = 0
lowest_closed (Some r ∷ ss) = suc (lowest_closed ss)

-- a slot of the program's memory has a record of this identifier
abbrev pub has_record_of : ℕ → Option LogRecord → Bool
has_record_of id None = false
has_record_of id (Some r) = r.id == id

-- the slots of the program's memory: these, and closed ones up to n
abbrev pub with_closed : ℕ → List (Option LogRecord) → List (Option LogRecord)
with_closed n ss = ss ++ replicate (n - length ss) None

-- the disk's bytes are a log with these slots, and a crash leaves nothing else
abbrev pub Agrees : List ℕ → (List ℕ → Type 0) → List (Option CommitRecord) → Type 0
Agrees seen image slots = AgreesBy head slots_of seen image slots

-- the same head, and the slots are these
abbrev pub HasSlots : List ℕ → List Slot → List ℕ → Type 0
HasSlots was held now = HasSlotsBy slots_of was held now

-- slot k is as before, or holds this; all else is as before
abbrev pub IsEither : List ℕ → ℕ → Slot → List ℕ → Type 0
IsEither was k s c = IsEitherBy slots_of was k s c

-- the gate of slot k is closed
abbrev pub IsClosed : ℕ → List ℕ → Type 0
IsClosed k b = IsSlotBy slots_of k (Ok None) b

-- the gate of slot k is open, and a record comes after it
abbrev pub IsOpen : ℕ → List ℕ → Type 0
IsOpen k b = (r : CommitRecord) × IsSlotBy slots_of k (Ok (Some r)) b
