-- The numbers for good of a manager's transactions, and the epochs of its log.
use Rattle.std.specs.Prelude.{ℕ, ◌≡◌, ◌≢◌, ◌≤◌, ◌<◌, ◌+◌, ◌*◌, ◌-◌, ◌^◌, ◌⊎◌, Bool, false, List, None, length, slice_get, IsOkAnd, IsTrue, IsFalse}
use Rattle.dtx_values.specs.TxIds.{number_in}
use Rattle.dtx_values.specs.declared.number.TxNo.{TxNo}
use Rattle.dtx_model.specs.Log.{CommitRecord, first_of, log_has}
use Rattle.dtx_model.specs.Promotes.{identifier_of}
use Rattle.coordinator_log.specs.Slots.{lowest_closed, open_records}
use Rattle.coordinator_log.specs.State.{LogState}
use Rattle.coordinator_log.specs.declared.refusal.LogRefusal.{LogRefusal}
use Rattle.coordinator_log.specs.declared.refusal.LogRefusal.TheVariants.{Full, NoSuch as NoRecord, Memory as LogMemory}
use Rattle.log_epochs.specs.Beginning.{AllAre, IsSameOrNext}
use Rattle.log_epochs.specs.Epochs.{epoch_of}
use Rattle.transactions.specs.Logged.{KeepsCommits}
use Rattle.outside.specs.Faults.{Rose}
use Rattle.transactions.specs.declared.error.TxError.{TxError}
use Rattle.transactions.specs.declared.error.TxError.TheVariants.{Many, Memory, LogFull, LogStopped, NoEpoch}
use Rattle.transactions.specs.Slots.{is_vacant}
use Rattle.transactions.specs.State.{LiveState}

-- the greatest number for good of an epoch
abbrev pub last_in : ℕ → ℕ
last_in epoch = 65536 * epoch + 256

-- the number is of the epoch of these records, or an earlier one: so each number of the next epoch is above it
abbrev pub IsUpTo : ℕ → List CommitRecord → Type 0
IsUpTo number rs = number ≤ last_in (epoch_of rs)

-- each image that a crash can leave is a log, and the number is of its epoch or an earlier one
abbrev pub AreFrom : ℕ → (List ℕ → Type 0) → Type 0
AreFrom number image = AllAre image (IsUpTo number)

-- The log recorded the epoch of a number: the log has it, or a later one; and on an honest disk each image that a crash can leave has.
pub record IsRecorded {D : Type 0} (honest : Bool) (image : D → List ℕ → Type 0) (log : LogState D) (number : ℕ) : Type 0 where
  pub held : IsUpTo number (open_records log.slots)
  pub imaged : IsTrue honest → AreFrom number (image log.disk)

-- the place has a transaction, or the log has a record of its number in the epoch
abbrev pub IsTaken : {D : Type 0} → LogState D → ℕ → List LiveState → ℕ → Type 0
IsTaken log epoch xs n = (is_vacant (slice_get xs (n - 1)) ≡ false) ⊎ (first_of (identifier_of (number_in epoch n)) (open_records log.slots) ≢ None)

-- No number of the epoch after this one is left: each up to the next place is taken.
abbrev pub AreNone : {D : Type 0} → LogState D → ℕ → ℕ → List LiveState → Type 0
AreNone log epoch after xs = (p : TxNo) → after < p.value → p.value ≤ length xs + 1 → IsTaken log epoch xs p.value

-- What a begin may do to the log: it has the same records of transactions, and the same epoch or the next one; each image of an honest disk is one of before or has so too, where
-- the log was up; it is up only where it was, and no fault is taken back; and no transaction's record was touched.
pub record NumbersLog {D : Type 0} (honest : Bool) (image : D → List ℕ → Type 0) (faults : D → ℕ) (from to : LogState D) : Type 0 where
  pub records : IsSameOrNext (open_records from.slots) (open_records to.slots)
  pub imaged : IsTrue honest → IsTrue from.is_up → (c : List ℕ) → image to.disk c → image from.disk c ⊎ IsOkAnd (log_has c) (IsSameOrNext (open_records from.slots))
  pub still : IsTrue to.is_up → IsTrue from.is_up
  pub grows : faults from.disk ≤ faults to.disk
  pub untouched : IsTrue honest → KeepsCommits image from to

-- why no epoch begins, where the log refused so
abbrev pub number_refusal : LogRefusal → TxError
number_refusal (Full n) = LogFull
number_refusal (NoRecord id) = NoEpoch
number_refusal LogMemory = Memory
number_refusal _ = LogStopped

-- Why no epoch began: all slots of the log have a record; the log was stopped, or its disk failed now; or its epoch is the last.
abbrev pub MayNotNumber : {D : Type 0} → (D → ℕ) → LogState D → LogState D → TxError → Type 0
MayNotNumber faults from to LogFull = (lowest_closed from.slots ≡ 1024) × (to ≡ from)
MayNotNumber faults from to LogStopped = IsFalse to.is_up × (IsFalse from.is_up ⊎ Rose (faults from.disk) (faults to.disk))
MayNotNumber faults from to NoEpoch = (epoch_of (open_records from.slots) ≡ 2 ^ 32 - 1) × (to ≡ from)
MayNotNumber faults from to _ = ⊥

-- Why no transaction began: memory ran out; no number is left; or no epoch began.
abbrev pub MayNotBegin : {D : Type 0} → (D → ℕ) → LogState D → LogState D → List LiveState → TxError → Type 0
MayNotBegin faults from to xs Memory = Unit {0}
MayNotBegin faults from to xs Many = AreNone to (epoch_of (open_records to.slots)) 0 xs
MayNotBegin faults from to xs e = MayNotNumber faults from to e
