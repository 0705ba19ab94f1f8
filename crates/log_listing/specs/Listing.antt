-- The listing of a log.
use Rattle.std.specs.Prelude.{ℕ, ◌+◌, ◌*◌, ◌-◌, ◌/◌, ◌%◌, ◌==◌, nat_le, nat_lt, Bool, ◌&&◌, List, [], ◌++◌, codes, count_by, decimal, is_some, Option, Some, None, if◌then◌else◌}
use Rattle.std.specs.List.{enumerate_from, flat_map}
use Rattle.dtx_model.specs.Grammar.{enlistment_name, manager_name}
use Rattle.dtx_model.specs.Log.{CommitRecord}
use Rattle.dtx_model.specs.TraceText.{id_text}
use Rattle.log_epochs.specs.Epochs.{epoch_of_record, is_epoch_record}

-- the epoch of a transaction's identifier, which is 2^64 + 65,536 N + T for transaction T of epoch N; and its number there
abbrev pub epoch_in_id : ℕ → ℕ
epoch_in_id id = (id - 18446744073709551616) / 65536

abbrev pub number_in_id : ℕ → ℕ
number_in_id id = (id - 18446744073709551616) % 65536

-- the identifier is that of a transaction: the epoch has 32 bits, and the number lies from 1 to 256
abbrev pub is_transaction_id : ℕ → Bool
is_transaction_id id =
    (id == 18446744073709551616 + (65536 * epoch_in_id id + number_in_id id)) && (nat_lt (epoch_in_id id) 4294967296 && (nat_le 1 (number_in_id id) && nat_le (number_in_id id) 256))

-- N.T for transaction T of epoch N, and the identifier as traces have it where it is that of none
abbrev pub name_of : ℕ → List ℕ
name_of id = if is_transaction_id id then decimal (epoch_in_id id) ++ codes "." ++ decimal (number_in_id id) else id_text id

-- what a record is of: an epoch, or a transaction
abbrev pub record_name : CommitRecord → List ℕ
record_name r = if is_epoch_record r then codes "epoch " ++ decimal (epoch_of_record r) else name_of r.id

-- the words of an enlistment: its manager, and its number
abbrev pub pair_text : ℕ × ℕ → List ℕ
pair_text p = codes " " ++ manager_name p.0 ++ codes " " ++ enlistment_name p.1

-- the line of slot k, whose gate is open
abbrev pub slot_line : ℕ → CommitRecord → List ℕ
slot_line k r = codes "slot " ++ decimal k ++ codes " " ++ record_name r ++ flat_map pair_text r.enlistments ++ codes "\n"

-- a closed slot has no line
abbrev pub line_of : ℕ → Option CommitRecord → List ℕ
line_of k None = []
line_of k (Some r) = slot_line k r

abbrev pub slot_text : ℕ × Option CommitRecord → List ℕ
slot_text s = line_of s.0 s.1

-- the last line: so many slots are open
abbrev pub count_line : ℕ → List ℕ
count_line n = decimal n ++ codes " of 1024 slots used\n"

-- the lines of the slots of a log, in order of slots, and the last line
abbrev pub listing_of : List (Option CommitRecord) → List ℕ
listing_of slots = flat_map slot_text (enumerate_from 0 slots) ++ count_line (count_by is_some slots)
