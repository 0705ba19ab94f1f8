-- What the beginning of an epoch does to the records of a log.
use Rattle.std.specs.Prelude.{◌≡◌, ◌≢◌, ◌⊎◌, ◌≤◌, ◌<◌, ◌+◌, ℕ, nat_lt, Bool, true, false, ◌&&◌, not, List, Option, Some, None, IsOkAnd}
use Rattle.dtx_model.specs.Log.{CommitRecord, first_of, log_has}
use Rattle.log_epochs.specs.Epochs.{commits_of, epoch_of, epoch_of_record, epoch_record, identifier_of_epoch, is_epoch_record}

-- the records of the same transactions, and this epoch
pub record IsAtEpoch (n : ℕ) (old new : List CommitRecord) : Type 0 where
  pub commits : commits_of new ≡ commits_of old
  pub epoch : epoch_of new ≡ n

-- the records of the same transactions, and the same epoch or the next
pub record IsSameOrNext (old new : List CommitRecord) : Type 0 where
  pub commits : commits_of new ≡ commits_of old
  pub epoch : (epoch_of new ≡ epoch_of old) ⊎ (epoch_of new ≡ epoch_of old + 1)

-- each of these images is a log, of whose records this holds
abbrev pub AllAre : (List ℕ → Type 0) → (List CommitRecord → Type 0) → Type 0
AllAre image P = (c : List ℕ) → image c → IsOkAnd (log_has c) P

-- what was found is the record of an epoch before n
abbrev pub is_earlier : ℕ → Option CommitRecord → Bool
is_earlier n None = false
is_earlier n (Some r) = is_epoch_record r && nat_lt (epoch_of_record r) n

-- of no epoch before n is a record found
abbrev pub AreFreed : ℕ → List CommitRecord → Type 0
AreFreed n rs = (m : ℕ) → 1 ≤ m → m < n → first_of (identifier_of_epoch m) rs ≢ Some (epoch_record m)

-- the record in a slot isn't of an epoch before n, or another one is found under its identifier
abbrev pub is_passed : ℕ → List CommitRecord → Option CommitRecord → Bool
is_passed n rs None = true
is_passed n rs (Some r) = not (is_earlier n (Some r) && is_earlier n (first_of r.id rs))
