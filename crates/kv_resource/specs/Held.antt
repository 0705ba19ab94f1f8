-- What a store holds of enlistments, and what a crash may leave of that.
use Rattle.std.specs.Prelude.{◌≡◌, ℕ, suc, nat_le, Bool, false, List, [], ◌∷◌, map, Option, Some, None, Ok, IsTrue}
use Rattle.resource_managers.specs.Holding.{Holding}
use Rattle.kv_resource.specs.Bytes.{KvRecord, kv_has}
use Rattle.kv_resource.specs.Store.{KvState}

-- what a record holds, by whether a call of this process wrote it
abbrev pub record_held : Bool → KvRecord → Holding
record_held here r = record { number = r.transaction; enlistment = r.enlistment; marked = r.marked; here = here }

-- what these slots hold, of which the first is slot k: slot `earlier` and those above it were written by calls of this process
abbrev pub holdings_from : ℕ → ℕ → List (Option KvRecord) → List Holding
holdings_from earlier k [] = []
holdings_from earlier k (None ∷ ss) = holdings_from earlier (suc k) ss
holdings_from earlier k (Some r ∷ ss) = record_held (nat_le earlier k) r ∷ holdings_from earlier (suc k) ss

-- what a store holds, in order of slots
abbrev pub holdings_of : {D : Type 0} → KvState D → List Holding
holdings_of s = holdings_from s.earlier 0 s.memory.slots

-- a crash may leave what is held here: it is what an image of the disk holds. Of a disk that isn't honest it is said of nothing.
pub record MayLeave {D : Type 0} (honest : Bool) (image : D → List ℕ → Type 0) (s : KvState D) (hs : List Holding) : Type 0 where
  pub honestly : IsTrue honest
  pub bytes : List ℕ
  pub left : image s.disk bytes
  pub records : List KvRecord
  pub read : kv_has bytes ≡ Ok records
  pub found : hs ≡ map (record_held false) records
