-- KvHas: what the bytes of a store stand for. After an open gate come the format, 1; the number of writes in two bytes; the transaction and the enlistment in four each; for each write its key in four bytes and its value in eight, the keys
-- rising; zeros up to place 506; the transaction's epoch in four bytes; and the mark at place 511, of which 1 is committed. All numbers have their lowest byte first.
use Rattle.std.specs.Prelude.{ℕ, zero, suc, ◌+◌, ◌-◌, ◌*◌, ◌==◌, nat_le, nat_lt, Bool, true, false, ◌&&◌, not, List, [], ◌∷◌, ◌++◌, length, take, drop, replicate, slice_index, Option, Some, None, Result, Ok, Err, if◌then◌else◌}
use Rattle.std.specs.Int.{w16, w32, w64, from_le_bytes, to_le_bytes}
use Rattle.std.specs.List.{flat_map}
use Rattle.dtx_model.specs.Log.{◌>>=◌, zeros_at}
use Rattle.dtx_values.specs.TxIds.{number_in}
use Rattle.slotted.specs.Slotted.{SlotRead, gated, held_by, slots_in}

-- a prepared record: its transaction, by the number for good, and enlistment; its writes (keys and values, the keys rising), and whether it is marked as committed
pub record KvRecord : Type 0 where
  pub transaction : ℕ
  pub enlistment : ℕ
  pub writes : List (ℕ × ℕ)
  pub marked : Bool

-- the numbers at the front of these bytes
unfoldable pub number16 : List ℕ → ℕ
number16 b = from_le_bytes w16 (take 2 b)

unfoldable pub number32 : List ℕ → ℕ
number32 b = from_le_bytes w32 (take 4 b)

unfoldable pub number64 : List ℕ → ℕ
number64 b = from_le_bytes w64 (take 8 b)

abbrev pub is_within : ℕ → ℕ → Bool
is_within most n = nat_le 1 n && nat_le n most

-- the key is above the one before it, where one is
abbrev pub is_above : Option ℕ → ℕ → Bool
is_above (Some before) key = nat_lt before key
is_above None key = true

-- The readers get the bytes from where they read on, and the place in the slot where these begin. They give what is read, or the first place of another form.

-- so many writes behind this key, and the bytes after them
unfoldable pub writes_at : ℕ → ℕ → Option ℕ → List ℕ → Result (List (ℕ × ℕ) × List ℕ) ℕ
writes_at zero place before b = Ok ([], b)
writes_at (suc n) place before b =
    if is_above before (number32 b) then (writes_at n (place + 12) (Some (number32 b)) (drop 12 b) >>= λ ws. Ok ((number32 b, number64 (drop 4 b)) ∷ ws.0, ws.1)) else Err place

-- an unmarked record of a transaction of this epoch, of the 506 bytes between the gate and the epoch: place p of the slot is place p - 1 here
unfoldable pub unmarked_at : ℕ → List ℕ → Result KvRecord ℕ
unmarked_at epoch b =
    if not (slice_index b 0 == 1) then Err 1 else if not (is_within 40 (number16 (drop 1 b))) then Err 2 else
    if not (is_within 256 (number32 (drop 3 b))) then Err 4 else if not (is_within 9999 (number32 (drop 7 b))) then Err 8 else
    (writes_at (number16 (drop 1 b)) 12 None (drop 11 b) >>= λ ws. zeros_at (12 + 12 * number16 (drop 1 b)) ws.1 >>= λ _.
    Ok (record { transaction = number_in epoch (number32 (drop 3 b)); enlistment = number32 (drop 7 b); writes = ws.0; marked = false }))

-- a record with this mark
abbrev pub with_mark : Bool → KvRecord → KvRecord
with_mark m r = record { transaction = r.transaction; enlistment = r.enlistment; writes = r.writes; marked = m }

-- a record, of the 511 bytes after the gate: the epoch and the mark come last
unfoldable pub kv_record_at : List ℕ → Result KvRecord ℕ
kv_record_at b = unmarked_at (number32 (drop 506 b)) (take 506 b) >>= λ r. Ok (with_mark (slice_index b 510 == 1) r)

-- the slots of a store
unfoldable pub kv_slots : List ℕ → List (SlotRead KvRecord)
kv_slots b = slots_in (gated kv_record_at) b

-- the head: DTXKV01, LF and zeros
unfoldable pub kv_head : List ℕ
kv_head = 68 ∷ 84 ∷ 88 ∷ 75 ∷ 86 ∷ 48 ∷ 49 ∷ 10 ∷ replicate 504 0

-- KvHas: the records of the open gates, in order of slots, or the first place of another form
unfoldable pub kv_has : List ℕ → Result (List KvRecord) ℕ
kv_has b = held_by kv_head kv_slots b

-- how a record is spelled between its gate and its epoch, where t is its transaction's number within that
abbrev pub write_bytes : ℕ × ℕ → List ℕ
write_bytes w = to_le_bytes w32 w.0 ++ to_le_bytes w64 w.1

unfoldable pub front_bytes : ℕ → KvRecord → List ℕ
front_bytes t r = (1 ∷ []) ++ to_le_bytes w16 (length r.writes) ++ to_le_bytes w32 t ++ to_le_bytes w32 r.enlistment

unfoldable pub unmarked_bytes : ℕ → KvRecord → List ℕ
unmarked_bytes t r = front_bytes t r ++ flat_map write_bytes r.writes ++ replicate (495 - 12 * length r.writes) 0

-- writes that a slot can spell, behind this key: the keys rise, and the numbers fit their bytes
abbrev pub are_spelled : Option ℕ → List (ℕ × ℕ) → Bool
are_spelled before [] = true
are_spelled before (w ∷ ws) = is_above before w.0 && (nat_lt w.0 4294967296 && nat_lt w.1 18446744073709551616) && are_spelled (Some w.0) ws
