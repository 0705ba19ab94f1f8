-- The table that a store keeps in memory: its rows, and the room for more.
use Rattle.std.specs.Prelude.{◌≡◌, ◌≤◌, ◌<◌, ◌+◌, ◌*◌, ◌&&◌, ℕ, suc, Bool, List, [], ◌∷◌, Option, Some, None, length, insert, set, slice_index_or, if◌then◌else◌}
use Rattle.dtx_model.specs.Words.{has}
use Rattle.kv_resource.specs.Bytes.{KvRecord}
use Rattle.kv_resource.specs.Store.{get_in, on_open, open_records, table_of, with_write, wrote_key}

-- the keys of the rows rise, from n on
abbrev pub IsRisingFrom : ℕ → List (ℕ × ℕ) → Type 0
IsRisingFrom n [] = Unit {0}
IsRisingFrom n (w ∷ ws) = (n ≤ w.0) × IsRisingFrom (suc w.0) ws

-- the keys of the rows rise
abbrev pub IsRising : List (ℕ × ℕ) → Type 0
IsRising ws = IsRisingFrom 0 ws

-- the row at place i is the key's: what the key has stands there, and a write to the key replaces it
pub record IsRowAt (k : ℕ) (t : List (ℕ × ℕ)) (i : ℕ) : Type 0 where
  pub inside : i < length t
  pub found : (d : ℕ × ℕ) → get_in k t ≡ Some (slice_index_or t i d).1
  pub put : (v : ℕ) → set t i (k, v) ≡ with_write k v t

-- the key has no row, and a write to the key goes in at place i
pub record IsGapAt (k : ℕ) (t : List (ℕ × ℕ)) (i : ℕ) : Type 0 where
  pub inside : i ≤ length t
  pub absent : get_in k t ≡ None
  pub put : (v : ℕ) → insert t i (k, v) ≡ with_write k v t

-- the record is marked, and wrote the key
abbrev pub is_marked_write : ℕ → KvRecord → Bool
is_marked_write k r = r.marked && wrote_key k r.writes

-- the rows with this write, unless a marked record of the later slots wrote its key
abbrev pub with_write_under : List (Option KvRecord) → ℕ → ℕ → List (ℕ × ℕ) → List (ℕ × ℕ)
with_write_under later k v t = if has (on_open (is_marked_write k)) later then t else with_write k v t

-- the rows with each of these writes in turn, unless a marked record of the later slots wrote its key
abbrev pub with_writes_under : List (Option KvRecord) → List (ℕ × ℕ) → List (ℕ × ℕ) → List (ℕ × ℕ)
with_writes_under later [] t = t
with_writes_under later (w ∷ ws) t = with_writes_under later ws (with_write_under later w.0 w.1 t)

-- the slot has a marked record
abbrev pub is_marked_slot : Option KvRecord → Bool
is_marked_slot s = on_open (λ r. r.marked) s

-- how many slots have no marked record
abbrev pub unmarked_in : List (Option KvRecord) → ℕ
unmarked_in [] = 0
unmarked_in (s ∷ ss) = if is_marked_slot s then unmarked_in ss else suc (unmarked_in ss)

-- what holds of the rows: they are the table of the slots, and have room for 40 more from each slot that isn't marked
pub record IsTabled (rows : List (ℕ × ℕ)) (capacity : ℕ) (slots : List (Option KvRecord)) : Type 0 where
  pub is : rows ≡ table_of (open_records slots)
  pub room : length rows + 40 * unmarked_in slots ≤ capacity
