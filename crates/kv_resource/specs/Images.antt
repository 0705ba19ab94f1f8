-- K1: what a crash leaves of a store under each note.
use Rattle.std.specs.Prelude.{◌≡◌, ◌≤◌, ◌⊎◌, ℕ, Bool, true, false, List, [], ◌∷◌, Contains, Option, Some, Ok, OnErr, OnOk, Result, IsTrue, IsFalse, length, set, is_ok}
use Rattle.outside.specs.Disk.{AreWithin, IsOnly}
use Rattle.outside.specs.Faults.{Rose}
use Rattle.outside.specs.declared.failure.Failed.{Failed}
use Rattle.dtx_values.specs.declared.note.Note.{Note}
use Rattle.dtx_values.specs.declared.note.Reply.{Reply}
use Rattle.slotted.specs.Slotted.{AgreesBy, HasSlotsBy, IsEitherBy}
use Rattle.kv_resource.specs.Bytes.{KvRecord, kv_has, kv_head, kv_slots}
use Rattle.kv_resource.specs.Store.{KvDraft, KvMemory, KvState, Pair, open_records}
use Rattle.kv_resource.specs.Notes.{Fate, Work, Closes, Marks, Nothing, Writes, WritesAndMarks, answer_of, closed_record, earlier_after, fresh_record, is_smooth, is_work, marked_record, memory_after, on_unmarked, work_of}

-- what each image may hold after the work, whatever failed: as before, or after a part of it that ends with a sync
abbrev pub may_hold : KvMemory → Pair → Work → List (List KvRecord)
may_hold m p Nothing = open_records m.slots ∷ []
may_hold m p (Writes k) = open_records m.slots ∷ open_records (set m.slots k (Some (fresh_record m p false))) ∷ []
may_hold m p (WritesAndMarks k) = open_records m.slots ∷ open_records (set m.slots k (Some (fresh_record m p false))) ∷ open_records (set m.slots k (Some (fresh_record m p true))) ∷ []
may_hold m p Marks = open_records m.slots ∷ open_records (on_unmarked p marked_record m.slots) ∷ []
may_hold m p Closes = open_records m.slots ∷ open_records (on_unmarked p closed_record m.slots) ∷ []

-- the slots in memory are those of the disk, and a crash leaves nothing else
abbrev pub IsStored : List ℕ → (List ℕ → Type 0) → List (Option KvRecord) → Type 0
IsStored seen image slots = AgreesBy kv_head kv_slots seen image slots

-- each image is a store with these records
abbrev pub AllHold : (List ℕ → Type 0) → List KvRecord → Type 0
AllHold image records = (c : List ℕ) → image c → kv_has c ≡ Ok records

-- what holds of each store: until it is stopped its slots are those of the disk; each image that a crash can leave is a store; the disk has room for one; and there are 1,024 slots
pub record IsKept (honest : Bool) (seen : List ℕ) (image : List ℕ → Type 0) (size : ℕ) (m : KvMemory) : Type 0 where
  pub stored : IsTrue honest → IsFalse m.stopped → IsStored seen image m.slots
  pub whole : IsTrue honest → (c : List ℕ) → image c → is_ok (kv_has c) ≡ true
  pub room : 524800 ≤ size
  pub many : length m.slots ≡ 1024

-- K1, for each note: whichever device call failed, each image holds what it may; where none failed each holds what the store keeps; and a stopped store leaves the images as they were
pub record Leaves {D : Type 0} (image : D → List ℕ → Type 0) (old : KvState D) (p : Pair) (n : Note) (new : KvState D) : Type 0 where
  pub images : IsFalse old.memory.stopped → (c : List ℕ) → image new.disk c → (rs : List KvRecord) × (kv_has c ≡ Ok rs) × Contains (may_hold old.memory p (work_of old.memory p n)) rs
  pub durable : IsFalse new.memory.stopped → AllHold (image new.disk) (open_records new.memory.slots)
  pub stopped : IsTrue old.memory.stopped → AreWithin (image old.disk) (image new.disk)

-- What a store gives to a note, with its cause and its images.
pub record Gives {D : Type 0} (honest : Bool) (image : D → List ℕ → Type 0) (faults : D → ℕ) (old : KvState D) (p : Pair) (n : Note) (a : Option Reply) (new : KvState D) : Type 0 where
  pub fate : Fate
  pub answer : a ≡ answer_of old.memory p n fate
  pub kept : new.memory ≡ memory_after old.memory p n fate
  pub cause : is_smooth fate ≡ false → Rose (faults old.disk) (faults new.disk)
  pub smooth : is_smooth fate ≡ true → faults new.disk ≡ faults old.disk
  pub earlier : new.earlier ≡ earlier_after old.earlier (work_of old.memory p n) fate
  pub idle : is_work (work_of old.memory p n) ≡ false → new.disk ≡ old.disk
  pub leaves : IsTrue honest → Leaves image old p n new

-- Device work, by which slot k of a store on a synced disk becomes this.
pub record PutsSlot {D : Type 0} (seen : D → List ℕ) (image : D → List ℕ → Type 0) (old new : D) (k : ℕ) (x : Option KvRecord) (result : Result (Unit {0}) Failed) : Type 0 where
  pub done : OnOk result (HasSlotsBy kv_slots (seen old) (set (kv_slots (seen old)) k (Ok x)) (seen new))
  pub durable : OnOk result (IsOnly (seen new) (image new))
  pub images : (c : List ℕ) → image new c → IsEitherBy kv_slots (seen old) k (Ok x) c

-- device work fails only by a fault, and the disk is as long as before
pub record Works {D : Type 0} (size faults : D → ℕ) (old new : D) (result : Result (Unit {0}) Failed) : Type 0 where
  pub same_size : size new ≡ size old
  pub smooth : OnOk result (faults new ≡ faults old)
  pub grows : faults old ≤ faults new
  pub cause : OnErr result (Rose (faults old) (faults new))

-- the work of a store by which its slot k becomes this, its drafts these, and the first slot that isn't an earlier process's this: after a fault its memory is as before, and it is stopped
pub record TurnsSlot {D : Type 0} (honest : Bool) (image : D → List ℕ → Type 0) (faults : D → ℕ) (old new : KvState D) (k : ℕ) (x : Option KvRecord) (drafts : List KvDraft) (earlier : ℕ) (result : Result (Unit {0}) Failed) : Type 0 where
  pub done : OnOk result (new.memory ≡ record { slots = set old.memory.slots k x; drafts = drafts; stopped = false })
  pub since : OnOk result (new.earlier ≡ earlier)
  pub failed : OnErr result (new.memory ≡ record { slots = old.memory.slots; drafts = old.memory.drafts; stopped = true })
  pub still : OnErr result (new.earlier ≡ old.earlier)
  pub smooth : OnOk result (faults new.disk ≡ faults old.disk)
  pub cause : OnErr result (Rose (faults old.disk) (faults new.disk))
  pub images : IsTrue honest → (c : List ℕ) → image new.disk c → (kv_has c ≡ Ok (open_records old.memory.slots)) ⊎ (kv_has c ≡ Ok (open_records (set old.memory.slots k x)))
  pub durable : IsTrue honest → OnOk result (AllHold (image new.disk) (open_records (set old.memory.slots k x)))
