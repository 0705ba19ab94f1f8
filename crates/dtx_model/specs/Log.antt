-- LogHas: what the bytes of the coordinator's log stand for.
-- A log is a head of 512 bytes and 1,024 slots of 512 bytes each. Byte 0 of a slot is its gate, and 1 is open. Behind an open gate stand the format, 1; the number of
-- enlistments in two bytes, the lowest first; the identifier in 16 bytes, the highest first; 20 bytes for each enlistment; and zeros.
use Rattle.std.specs.Prelude.{ℕ, zero, suc, ◌+◌, ◌*◌, ◌==◌, nat_le, Bool, not, List, [], ◌∷◌, map, take, drop, replicate, slice_index, Option, Some, None, Result, Ok, Err, if◌then◌else◌}
use Rattle.std.specs.Int.{w16, from_le_bytes}
use Rattle.dtx_values.specs.declared.record.LogRecord.{LogRecord}
use Rattle.dtx_values.specs.RecoveryInfo.{identifier_in, pair_in, pair_of}

-- a record: the transaction's identifier, and the manager and the number of each enlistment that is to hear the commit
pub record CommitRecord : Type 0 where
  pub id : ℕ
  pub enlistments : List (ℕ × ℕ)

-- a record as the program holds it
abbrev pub record_of : LogRecord → CommitRecord
record_of r = record { id = r.id; enlistments = map pair_of (take r.count r.durables) }

-- what is read goes on to the next reader; a bad place ends the reading
infixl 10 ◌>>=◌
abbrev pub ◌>>=◌ : {A B : Type 0} → Result A ℕ → (A → Result B ℕ) → Result B ℕ
(Ok x) >>= f = f x
(Err p) >>= f = Err p

-- the number in 2 bytes at this place, the lowest first
unfoldable pub count_at : ℕ → List ℕ → ℕ
count_at at b = from_le_bytes w16 (take 2 (drop at b))

-- The readers get the bytes from where they read on, and the place in the slot where these begin. They give what is read, or the first place of another form.

-- what is read of bytes that begin at this place of the slot: a bad place among them is one of the slot
abbrev pub from_place : {A : Type 0} → ℕ → Result A ℕ → Result A ℕ
from_place place (Ok x) = Ok x
from_place place (Err p) = Err (place + p)

-- an enlistment: its manager in 16 bytes, from 1 to 16, and its number in 4, from 1 to 9,999
unfoldable pub pair_at : ℕ → List ℕ → Result (ℕ × ℕ) ℕ
pair_at place b = from_place place (pair_in b)

-- so many enlistments, and the bytes behind them
unfoldable pub pairs_at : ℕ → ℕ → List ℕ → Result (List (ℕ × ℕ) × List ℕ) ℕ
pairs_at zero place b = Ok ([], b)
pairs_at (suc n) place b = pair_at place b >>= λ p. pairs_at n (place + 20) (drop 20 b) >>= λ ps. Ok (p ∷ ps.0, ps.1)

-- zeros to the end, whose place is given
unfoldable pub zeros_at : ℕ → List ℕ → Result ℕ ℕ
zeros_at place [] = Ok place
zeros_at place (x ∷ xs) = if x == 0 then zeros_at (place + 1) xs else Err place

-- a record: the format, the number of enlistments, an identifier of which neither half is 0, the enlistments, and zeros. The bytes begin behind the gate, so place p of
-- the slot is place p - 1 here.
unfoldable pub record_at : List ℕ → Result CommitRecord ℕ
record_at b =
    if not (slice_index b 0 == 1) then Err 1 else if not (nat_le (count_at 1 b) 16) then Err 2 else
    (from_place 4 (identifier_in (drop 3 b)) >>= λ id. pairs_at (count_at 1 b) 20 (drop 19 b) >>= λ ps. zeros_at (20 + 20 * count_at 1 b) ps.1 >>= λ _. Ok (record { id = id; enlistments = ps.0 }))

-- a slot: its record, or none where the gate is closed; or the first place in it of another form. What stands behind a closed gate isn't looked at.
abbrev pub Slot : Type 0
Slot = Result (Option CommitRecord) ℕ

unfoldable pub slot_at : List ℕ → Slot
slot_at b = if slice_index b 0 == 1 then (record_at (drop 1 b) >>= λ r. Ok (Some r)) else Ok None

-- so many slots, one behind the other
unfoldable pub slots_at : ℕ → List ℕ → List Slot
slots_at zero b = []
slots_at (suc n) b = slot_at (take 512 b) ∷ slots_at n (drop 512 b)

-- the slots of a log
unfoldable pub slots_of : List ℕ → List Slot
slots_of b = slots_at 1024 (drop 512 b)

-- the records of slots that begin at this place, in order, or the first place of another form
abbrev pub records_at : ℕ → List Slot → Result (List CommitRecord) ℕ
records_at place [] = Ok []
records_at place (Ok None ∷ ss) = records_at (place + 512) ss
records_at place (Ok (Some r) ∷ ss) = records_at (place + 512) ss >>= λ rs. Ok (r ∷ rs)
records_at place (Err p ∷ ss) = Err (place + p)

-- the head: DTXLOG1, LF and zeros
unfoldable pub head : List ℕ
head = 68 ∷ 84 ∷ 88 ∷ 76 ∷ 79 ∷ 71 ∷ 49 ∷ 10 ∷ replicate 504 0

-- the bytes are those that are wanted, from this place on, or the first place where they differ
unfoldable pub same_at : ℕ → List ℕ → List ℕ → Result ℕ ℕ
same_at place [] b = Ok place
same_at place (w ∷ ws) [] = Err place
same_at place (w ∷ ws) (x ∷ xs) = if x == w then same_at (place + 1) ws xs else Err place

-- LogHas: the records of a log's bytes, in order of slots, or the first place of another form
unfoldable pub log_has : List ℕ → Result (List CommitRecord) ℕ
log_has b = same_at 0 head (take 512 b) >>= λ _. records_at 512 (slots_of b)

-- the record is that of this transaction
abbrev pub is_record_of : ℕ → CommitRecord → Bool
is_record_of id r = r.id == id

-- the first record of this transaction
abbrev pub first_of : ℕ → List CommitRecord → Option CommitRecord
first_of id [] = None
first_of id (r ∷ rs) = if is_record_of id r then Some r else first_of id rs

-- without the first record of this transaction
abbrev pub without_first_of : ℕ → List CommitRecord → List CommitRecord
without_first_of id [] = []
without_first_of id (r ∷ rs) = if is_record_of id r then rs else r ∷ without_first_of id rs
