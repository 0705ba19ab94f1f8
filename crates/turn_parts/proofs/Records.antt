-- The records that bytes hold, and how many of them have one identifier.
use Rattle.std.proofs.Common.{◌≡◌, ◌≤◌, ℕ, Bool, true, false, List, [], ◌∷◌, filter, length, Some, arith, refl, subst, if◌then◌else◌}
use Rattle.std.specs.Prelude.{IfOk, Result, Ok, Err, is_some}
use Rattle.dtx_model.specs.Log.{CommitRecord, first_of, is_record_of}
use Rattle.tx_world.specs.AtLog.{AtMostOne}

-- Of records of which at most one has an identifier there is one exactly where the first is found.
pub one_there : (id : ℕ) (rs : List CommitRecord) → AtMostOne id rs → length (filter (is_record_of id) rs) ≡ (if is_some (first_of id rs) then 1 else 0)
one_there id [] k = refl
one_there id (r ∷ rs) k = by (is_record_of id r) k (one_there id rs)
  where
    by : (b : Bool) → length (if b then r ∷ filter (is_record_of id) rs else filter (is_record_of id) rs) ≤ 1
        → (AtMostOne id rs → length (filter (is_record_of id) rs) ≡ (if is_some (first_of id rs) then 1 else 0))
        → length (if b then r ∷ filter (is_record_of id) rs else filter (is_record_of id) rs) ≡ (if is_some (if b then Some r else first_of id rs) then 1 else 0)
    by true k ih = omega (arith, k)
    by false k ih = ih k

-- What is so of the records of each image's bytes, where they are a log's, is so of these records.
pub found_so : (P : List CommitRecord → Type 0) (r : Result (List CommitRecord) ℕ) (rs : List CommitRecord) → r ≡ Ok rs → IfOk r P → P rs
found_so P (Ok qs) rs e k = let same : qs ≡ rs = cc in subst P same k
found_so P (Err p) rs e k = absurd cc
