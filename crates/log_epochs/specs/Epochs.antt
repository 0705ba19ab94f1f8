-- Epochs: what a process numbers its transactions by, so that no number comes twice in the life of a log.
use Rattle.std.specs.Prelude.{ℕ, ◌+◌, ◌-◌, ◌*◌, ◌/◌, ◌==◌, max, Bool, ◌&&◌, not, List, [], ◌∷◌, filter, Option, Some, None, if◌then◌else◌}
use Rattle.dtx_values.specs.RecoveryInfo.{is_from_one}
use Rattle.dtx_model.specs.Log.{CommitRecord}
use Rattle.dtx_model.specs.Outcome.{is_empty}

-- the identifier of epoch n: that of a transaction of this epoch with number 0, which none has
abbrev pub identifier_of_epoch : ℕ → ℕ
identifier_of_epoch n = 18446744073709551616 + 65536 * n

-- the epoch of an identifier, if it is that of one
abbrev pub epoch_named : ℕ → ℕ
epoch_named id = (id - 18446744073709551616) / 65536

-- whether it is the identifier of an epoch; they are from 1 to 2^32 - 1
unfoldable pub is_epoch : ℕ → Bool
is_epoch id = is_from_one 4294967295 (epoch_named id) && (id == identifier_of_epoch (epoch_named id))

-- whether it is the record of an epoch: it has the identifier of one, and no enlistment
abbrev pub is_epoch_record : CommitRecord → Bool
is_epoch_record r = is_epoch r.id && is_empty r.enlistments

-- the record of epoch n
abbrev pub epoch_record : ℕ → CommitRecord
epoch_record n = record { id = identifier_of_epoch n; enlistments = [] }

-- the epoch that a record is of, and 0 where it is of none
unfoldable pub epoch_of_record : CommitRecord → ℕ
epoch_of_record r = if is_epoch_record r then epoch_named r.id else 0

-- the epoch of a log: the greatest that it has a record of, and 0 where it has none
abbrev pub epoch_of : List CommitRecord → ℕ
epoch_of [] = 0
epoch_of (r ∷ rs) = max (epoch_of_record r) (epoch_of rs)

-- the records of transactions, in order: all that are no epoch's
abbrev pub commits_of : List CommitRecord → List CommitRecord
commits_of rs = filter (λ r. not (is_epoch_record r)) rs

-- the later of an epoch and that of a slot's record
abbrev pub later_of : ℕ → Option CommitRecord → ℕ
later_of n None = n
later_of n (Some r) = max n (epoch_of_record r)
