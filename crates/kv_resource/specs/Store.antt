-- A store as its users see it, its table, and what a put does.
use Rattle.std.specs.Prelude.{ℕ, suc, ◌==◌, nat_lt, Bool, true, false, ◌&&◌, ◌||◌, not, List, [], ◌∷◌, find, length, Option, Some, None, if◌then◌else◌}
use Rattle.std.specs.List.{filter_map}
use Rattle.dtx_model.specs.Words.{has}
use Rattle.dtx_values.specs.declared.number.EnlNo.{EnlNo}
use Rattle.dtx_values.specs.declared.tx_id.TxId.{TxId}
use Rattle.dtx_values.specs.TxIds.{number_of}
use Rattle.slotted.specs.Slotted.{held_in}
pub use Rattle.resource_managers.specs.Pairs.{Pair}
use Rattle.kv_resource.specs.Bytes.{KvRecord}

-- writes of a pair that has no open slot: they are seen by nobody, and on no disk. A pair has one draft at most.
pub record KvDraft : Type 0 where
  pub transaction : ℕ
  pub enlistment : ℕ
  pub writes : List (ℕ × ℕ)

-- what a store keeps in memory: the record of each of its 1,024 slots, none where the gate is closed; the drafts; and whether a call of its disk failed, which stops it for good
pub record KvMemory : Type 0 where
  pub slots : List (Option KvRecord)
  pub drafts : List KvDraft
  pub stopped : Bool

-- a store. Each open slot below `earlier` was there when the store was opened; those from it on were written by calls of this process.
pub record KvState (D : Type 0) : Type 0 where
  pub disk : D
  pub memory : KvMemory
  pub earlier : ℕ

-- the records of the open slots, in order of slots
abbrev pub open_records : List (Option KvRecord) → List KvRecord
open_records ss = held_in ss

-- the pair of a record, of a draft, and of the program's numbers
abbrev pub pair_of_record : KvRecord → Pair
pair_of_record r = (r.transaction, r.enlistment)

abbrev pub pair_of_draft : KvDraft → Pair
pair_of_draft d = (d.transaction, d.enlistment)

abbrev pub numbers_of : TxId × EnlNo → Pair
numbers_of x = (number_of x.0, x.1.value)

abbrev pub is_record_of : Pair → KvRecord → Bool
is_record_of p r = (p.0 == r.transaction) && (p.1 == r.enlistment)

abbrev pub is_draft_of : Pair → KvDraft → Bool
is_draft_of p d = (p.0 == d.transaction) && (p.1 == d.enlistment)

abbrev pub is_unmarked : KvRecord → Bool
is_unmarked r = not r.marked

abbrev pub is_unmarked_of : Pair → KvRecord → Bool
is_unmarked_of p r = is_record_of p r && is_unmarked r

-- the slot is open, and its record passes
abbrev pub on_open : (KvRecord → Bool) → Option KvRecord → Bool
on_open test None = false
on_open test (Some r) = test r

-- the record of the pair's lowest open slot
abbrev pub lowest_of : KvMemory → Pair → Option KvRecord
lowest_of m p = find (is_record_of p) (open_records m.slots)

abbrev pub is_marked_record : Option KvRecord → Bool
is_marked_record (Some r) = r.marked
is_marked_record None = false

-- the pair has an open slot; its lowest is marked; one isn't; it wrote something
abbrev pub has_slot : KvMemory → Pair → Bool
has_slot m p = has (is_record_of p) (open_records m.slots)

abbrev pub has_marked : KvMemory → Pair → Bool
has_marked m p = is_marked_record (lowest_of m p)

abbrev pub has_unmarked : KvMemory → Pair → Bool
has_unmarked m p = has (is_unmarked_of p) (open_records m.slots)

abbrev pub has_draft : KvMemory → Pair → Bool
has_draft m p = has (is_draft_of p) m.drafts

abbrev pub wrote : KvMemory → Pair → Bool
wrote m p = has_slot m p || has_draft m p

-- the writes with this one: the key rising, the value of the same key replaced
abbrev pub with_write : ℕ → ℕ → List (ℕ × ℕ) → List (ℕ × ℕ)
with_write k v [] = (k, v) ∷ []
with_write k v (w ∷ ws) = if nat_lt w.0 k then w ∷ with_write k v ws else if w.0 == k then (k, v) ∷ ws else (k, v) ∷ w ∷ ws

-- how many writes come before one to this key
abbrev pub place_in : ℕ → List (ℕ × ℕ) → ℕ
place_in k [] = 0
place_in k (w ∷ ws) = if nat_lt w.0 k then suc (place_in k ws) else 0

-- the table: the fold of the marked records' writes, in order of slots
abbrev pub with_writes : List (ℕ × ℕ) → List (ℕ × ℕ) → List (ℕ × ℕ)
with_writes [] t = t
with_writes (w ∷ ws) t = with_writes ws (with_write w.0 w.1 t)

abbrev pub table_onto : List (ℕ × ℕ) → List KvRecord → List (ℕ × ℕ)
table_onto t [] = t
table_onto t (r ∷ rs) = table_onto (if r.marked then with_writes r.writes t else t) rs

abbrev pub table_of : List KvRecord → List (ℕ × ℕ)
table_of rs = table_onto [] rs

abbrev pub value_of : Option (ℕ × ℕ) → Option ℕ
value_of (Some w) = Some w.1
value_of None = None

abbrev pub get_in : ℕ → List (ℕ × ℕ) → Option ℕ
get_in k t = value_of (find (λ w. k == w.0) t)

abbrev pub doubt_of : KvRecord → Option Pair
doubt_of r = if r.marked then None else Some (pair_of_record r)

-- the pairs in doubt: those of the open slots that aren't marked, in order of slots
abbrev pub in_doubt : List KvRecord → List Pair
in_doubt rs = filter_map doubt_of rs

-- one above the highest open slot
abbrev pub above_highest : ℕ → List (Option KvRecord) → ℕ → ℕ
above_highest k [] n = n
above_highest k (None ∷ ss) n = above_highest (suc k) ss n
above_highest k (Some r ∷ ss) n = above_highest (suc k) ss (suc k)

abbrev pub next_slot : List (Option KvRecord) → Option ℕ
next_slot ss = if nat_lt (above_highest 0 ss 0) 1024 then Some (above_highest 0 ss 0) else None

abbrev pub writes_of : Option KvDraft → List (ℕ × ℕ)
writes_of (Some d) = d.writes
writes_of None = []

abbrev pub draft_of : KvMemory → Pair → List (ℕ × ℕ)
draft_of m p = writes_of (find (is_draft_of p) m.drafts)

-- Puts. Why a put is refused, in order.
pub data PutRefusal : Type 0 where
  Stopped : PutRefusal
  Prepared : (transaction enlistment : ℕ) → PutRefusal
  Busy : (transaction enlistment : ℕ) → PutRefusal
  TooMany : (most : ℕ) → PutRefusal

abbrev pub wrote_key : ℕ → List (ℕ × ℕ) → Bool
wrote_key k ws = has (λ w. k == w.0) ws

-- another pair that wrote the key and has neither committed nor rolled back: first one that is in doubt, by its slot, then one with a draft
abbrev pub is_busy_record : Pair → ℕ → KvRecord → Bool
is_busy_record p k r = not r.marked && not (is_record_of p r) && wrote_key k r.writes

abbrev pub is_busy_draft : Pair → ℕ → KvDraft → Bool
is_busy_draft p k d = not (is_draft_of p d) && wrote_key k d.writes

abbrev pub busy_by : Option KvRecord → Option KvDraft → Option PutRefusal
busy_by (Some r) d = Some (Busy r.transaction r.enlistment)
busy_by None (Some d) = Some (Busy d.transaction d.enlistment)
busy_by None None = None

-- the refusal of a put, where it is refused
abbrev pub first_refusal : Bool → PutRefusal → Option PutRefusal → Option PutRefusal
first_refusal true r rest = Some r
first_refusal false r rest = rest

abbrev pub or_too_many : Bool → Option PutRefusal → Option PutRefusal
or_too_many b (Some r) = Some r
or_too_many true None = Some (TooMany 40)
or_too_many false None = None

unfoldable pub put_refusal : KvMemory → Pair → ℕ → Option PutRefusal
put_refusal m p k =
    first_refusal m.stopped Stopped (first_refusal (has_slot m p) (Prepared p.0 p.1)
    (or_too_many (not (wrote_key k (draft_of m p) || nat_lt (length (draft_of m p)) 40))
    (busy_by (find (is_busy_record p k) (open_records m.slots)) (find (is_busy_draft p k) m.drafts))))

-- the drafts with this write of the pair
abbrev pub with_draft : Pair → ℕ → ℕ → List KvDraft → List KvDraft
with_draft p k v [] = record { transaction = p.0; enlistment = p.1; writes = (k, v) ∷ [] } ∷ []
with_draft p k v (d ∷ ds) = if is_draft_of p d then record { transaction = d.transaction; enlistment = d.enlistment; writes = with_write k v d.writes } ∷ ds else d ∷ with_draft p k v ds

-- the drafts without the pair's
abbrev pub without_draft : Pair → List KvDraft → List KvDraft
without_draft p [] = []
without_draft p (d ∷ ds) = if is_draft_of p d then ds else d ∷ without_draft p ds

-- a store with these drafts
abbrev pub with_drafts : {D : Type 0} → List KvDraft → KvState D → KvState D
with_drafts ds s = record { disk = s.disk; memory = record { slots = s.memory.slots; drafts = ds; stopped = s.memory.stopped }; earlier = s.earlier }

abbrev pub after_put : {D : Type 0} → Pair → ℕ → ℕ → KvState D → KvState D
after_put p k v s = with_drafts (with_draft p k v s.memory.drafts) s
