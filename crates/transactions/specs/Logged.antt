-- The records of the log, and what a call of one transaction leaves of those of the others.
use Rattle.std.specs.Prelude.{ℕ, ◌≡◌, ◌⊎◌, All, Bool, List, Some, Ok, IsTrue}
use Rattle.dtx_model.specs.Log.{CommitRecord, first_of, log_has}
use Rattle.coordinator_log.specs.Slots.{open_records}
use Rattle.coordinator_log.specs.State.{LogState}
use Rattle.log_epochs.specs.Epochs.{commits_of, is_epoch, is_epoch_record}
use Rattle.world_parts.specs.AtLog.{of_others}

-- no transaction has two records: each is the first of its transaction
abbrev pub AreUnique : List CommitRecord → Type 0
AreUnique rs = All (λ r. first_of r.id rs ≡ Some r) rs

-- Records as a manager keeps them: no transaction has two, and what has the identifier of an epoch is the record of that epoch.
pub record AreInOrder (rs : List CommitRecord) : Type 0 where
  pub unique : AreUnique rs
  pub epochs : All (λ r. is_epoch r.id ≡ is_epoch_record r) rs

-- The log may have these records: an image has them that a crash can leave, or it is up, and keeps them in memory.
abbrev pub MayHold : {D : Type 0} → (D → List ℕ → Type 0) → LogState D → List CommitRecord → Type 0
MayHold image log rs = ((c : List ℕ) × image log.disk c × (log_has c ≡ Ok rs)) ⊎ (IsTrue log.is_up × (rs ≡ open_records log.slots))

-- Of whichever records the log may have, those of transactions are all that it might have of them before: no transaction's record was touched.
abbrev pub KeepsCommits : {D : Type 0} → (D → List ℕ → Type 0) → LogState D → LogState D → Type 0
KeepsCommits image from to = (rs : List CommitRecord) → MayHold image to rs → (qs : List CommitRecord) × MayHold image from qs × (commits_of rs ≡ commits_of qs)

-- So it is of all records but those of this identifier: a call of the transaction with it touched no other's record.
abbrev pub KeepsRecords : {D : Type 0} → Bool → (D → List ℕ → Type 0) → ℕ → LogState D → LogState D → Type 0
KeepsRecords honest image id from to = IsTrue honest → (rs : List CommitRecord) → MayHold image to rs → (qs : List CommitRecord) × MayHold image from qs × (of_others id rs ≡ of_others id qs)
