-- What the log says of transactions of earlier processes, and which of its records may be freed.
use Rattle.std.specs.Prelude.{ℕ, ◌≡◌, ◌⊎◌, ◌≤◌, ◌==◌, Bool, true, false, ◌&&◌, not, List, [], ◌∷◌, filter, All, Contains, Option, Some, None, Result, IsOk, IsTrue, IsFalse, OnOk, OnErr, if◌then◌else◌}
use Rattle.dtx_values.specs.TxIds.{identifier_of_id}
use Rattle.dtx_values.specs.declared.number.RmNo.{RmNo}
use Rattle.dtx_values.specs.declared.words.Outcome.{Outcome}
use Rattle.dtx_values.specs.declared.words.Outcome.TheVariants.{Committed, Aborted}
use Rattle.dtx_model.specs.Log.{CommitRecord, first_of, without_first_of}
use Rattle.dtx_model.specs.Promotes.{identifier_of}
use Rattle.dtx_model.specs.Words.{each, has}
use Rattle.coordinator_log.specs.Crash.{AllHold}
use Rattle.coordinator_log.specs.Slots.{open_records}
use Rattle.coordinator_log.specs.State.{LogState}
use Rattle.log_epochs.specs.Beginning.{AllAre}
use Rattle.log_epochs.specs.Epochs.{is_epoch_record}
use Rattle.outside.specs.Faults.{Rose}
use Rattle.transactions.specs.State.{LiveState}

-- the record names an enlistment of this number
abbrev pub names : ℕ → CommitRecord → Bool
names e r = has (λ p. p.1 == e) r.enlistments

-- the outcome of an enlistment, by what was found of its transaction: committed where a record names it, and else aborted
abbrev pub outcome_by : ℕ → Option CommitRecord → Outcome
outcome_by e (Some r) = if names e r then Committed else Aborted
outcome_by e None = Aborted

-- the outcome that the log gives of an enlistment: by the first record of its transaction, which has this number for good
abbrev pub recovered_outcome : ℕ → ℕ → List CommitRecord → Outcome
recovered_outcome number e rs = outcome_by e (first_of (identifier_of number) rs)

-- the manager of this number is among those that have recovered
abbrev pub has_recovered : ℕ → List RmNo → Bool
has_recovered m ms = has (λ r. r.value == m) ms

-- each manager that the record names has recovered
abbrev pub is_covered : List RmNo → CommitRecord → Bool
is_covered ms r = each (λ p. has_recovered p.0 ms) r.enlistments

-- a place of the manager is that of the transaction with this identifier: it goes on there, or it was the last that did
abbrev pub has_place : ℕ → List LiveState → Bool
has_place id xs = has (λ x. identifier_of_id x.number == id) xs

-- The record may be freed: it is no epoch's, no place is its transaction's, and each manager that it names has recovered.
abbrev pub may_be_freed : List RmNo → List LiveState → CommitRecord → Bool
may_be_freed ms xs r = not (is_epoch_record r) && not (has_place r.id xs) && is_covered ms r

-- the records that may not be freed, in order
abbrev pub lasting : List RmNo → List LiveState → List CommitRecord → List CommitRecord
lasting ms xs rs = filter (λ r. not (may_be_freed ms xs r)) rs

-- Only records that may be freed are gone: those that may not are the same, in the same order; each that was found under its identifier still is; and none is new.
pub record OnlyFrees (ms : List RmNo) (xs : List LiveState) (old new : List CommitRecord) : Type 0 where
  pub kept : lasting ms xs new ≡ lasting ms xs old
  pub found : (id : ℕ) (r : CommitRecord) → first_of id old ≡ Some r → may_be_freed ms xs r ≡ false → first_of id new ≡ Some r
  pub among : All (Contains old) new

-- what was found is a record that may be freed
abbrev pub is_found : List RmNo → List LiveState → Option CommitRecord → Bool
is_found ms xs (Some r) = may_be_freed ms xs r
is_found ms xs None = false

-- of no identifier is a record found that may be freed
abbrev pub NoneIsFound : List RmNo → List LiveState → List CommitRecord → Type 0
NoneIsFound ms xs rs = (id : ℕ) → is_found ms xs (first_of id rs) ≡ false

-- the record in a slot may not be freed, or another one is found under its identifier
abbrev pub is_passed : List RmNo → List LiveState → List CommitRecord → Option CommitRecord → Bool
is_passed ms xs rs (Some r) = not (may_be_freed ms xs r && is_found ms xs (first_of r.id rs))
is_passed ms xs rs None = true

-- the records without the first of each of these identifiers, one after the other
abbrev pub without_each : List ℕ → List CommitRecord → List CommitRecord
without_each [] rs = rs
without_each (id ∷ ids) rs = without_each ids (without_first_of id rs)

-- What the freeing of records does to a log: only records go that may be freed, and after Ok none is found that may; so it is in each image of an honest disk; and it fails only where the log was
-- stopped, or its disk failed now.
pub record FreesLog {D : Type 0} (honest : Bool) (image : D → List ℕ → Type 0) (faults : D → ℕ) (ms : List RmNo) (xs : List LiveState) (old new : LogState D) {A E : Type 0} (result : Result A E) : Type 0 where
  pub records : OnlyFrees ms xs (open_records old.slots) (open_records new.slots)
  pub freed : OnOk result (NoneIsFound ms xs (open_records new.slots))
  pub nothing : NoneIsFound ms xs (open_records old.slots) → IsOk result × (new ≡ old)
  pub images : IsTrue honest → IsTrue old.is_up → AllAre (image new.disk) (OnlyFrees ms xs (open_records old.slots))
  pub durable : IsTrue honest → IsTrue old.is_up → OnOk result (AllHold (image new.disk) (open_records new.slots))
  pub up : OnOk result (new.is_up ≡ old.is_up)
  pub down : IsFalse old.is_up → new ≡ old
  pub stopped : OnErr result (IsFalse new.is_up)
  pub cause : OnErr result (IsFalse old.is_up ⊎ (old.armed ≡ None → Rose (faults old.disk) (faults new.disk)))
  pub smooth : OnOk result (faults new.disk ≡ faults old.disk)
  pub grows : faults old.disk ≤ faults new.disk
