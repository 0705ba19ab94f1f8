-- The records of one identifier among those of a log, when one is put in and when the first is taken out.
use Rattle.std.proofs.Common.{◌≡◌, ◌==◌, ◌≤◌, ℕ, suc, Bool, true, false, List, [], ◌∷◌, ◌++◌, ◌∙◌, refl, arith, ap, sym, subst}
use Rattle.std.specs.Prelude.{not, filter, length, take, drop, Option, Some, None, is_some, if◌then◌else◌}
use Rattle.std.specs.List.{insert}
use Rattle.std.proofs.lemmas.List.{take-append-drop}
use Rattle.std.proofs.lemmas.Bool.Decides.{nat_tests}
use Rattle.dtx_model.specs.Log.{CommitRecord, first_of, is_record_of, without_first_of}
use Rattle.world_parts.specs.AtLog.{AtMostOne, of_others}

same_number : (n : ℕ) → (n == n) ≡ true
same_number n = grind (arith, nat_tests)

-- a record of this identifier is one of it
is_it : (id : ℕ) (r : CommitRecord) → r.id ≡ id → is_record_of id r ≡ true
is_it id r e = let P : ℕ → Type 0 = λ i. (i == id) ≡ true in subst P (sym e) (same_number id)

-- where there was none, the one that is put in is the first
first_between : (id : ℕ) (r : CommitRecord) (xs ys : List CommitRecord) → is_record_of id r ≡ true → first_of id (xs ++ ys) ≡ None → first_of id (xs ++ r ∷ ys) ≡ Some r
first_between id r [] ys e n = rw e refl
first_between id r (x ∷ xs) ys e n = step (is_record_of id x) (first_between id r xs ys e) n
  where
    step : (b : Bool) → (first_of id (xs ++ ys) ≡ None → first_of id (xs ++ r ∷ ys) ≡ Some r)
        → (if b then Some x else first_of id (xs ++ ys)) ≡ None → (if b then Some x else first_of id (xs ++ r ∷ ys)) ≡ Some r
    step true ih n = absurd cc
    step false ih n = ih n

-- the others are as before
others_between : (id : ℕ) (r : CommitRecord) (xs ys : List CommitRecord) → is_record_of id r ≡ true → of_others id (xs ++ r ∷ ys) ≡ of_others id (xs ++ ys)
others_between id r [] ys e = rw e refl
others_between id r (x ∷ xs) ys e = step (is_record_of id x) (others_between id r xs ys e)
  where
    step : (b : Bool) → of_others id (xs ++ r ∷ ys) ≡ of_others id (xs ++ ys)
        → (if not b then x ∷ of_others id (xs ++ r ∷ ys) else of_others id (xs ++ r ∷ ys)) ≡ (if not b then x ∷ of_others id (xs ++ ys) else of_others id (xs ++ ys))
    step true ih = ih
    step false ih = ap (λ (zs : List CommitRecord). x ∷ zs) ih

-- where there was none, one is there then
none_of : (id : ℕ) (rs : List CommitRecord) → first_of id rs ≡ None → filter (is_record_of id) rs ≡ []
none_of id [] n = refl
none_of id (x ∷ xs) n = step (is_record_of id x) (none_of id xs) n
  where
    step : (b : Bool) → (first_of id xs ≡ None → filter (is_record_of id) xs ≡ [])
        → (if b then Some x else first_of id xs) ≡ None → (if b then x ∷ filter (is_record_of id) xs else filter (is_record_of id) xs) ≡ []
    step true ih n = absurd cc
    step false ih n = ih n

one_between : (id : ℕ) (r : CommitRecord) (xs ys : List CommitRecord) → is_record_of id r ≡ true → first_of id (xs ++ ys) ≡ None → filter (is_record_of id) (xs ++ r ∷ ys) ≡ r ∷ []
one_between id r [] ys e n = rw e (ap (λ (zs : List CommitRecord). r ∷ zs) (none_of id ys n))
one_between id r (x ∷ xs) ys e n = step (is_record_of id x) (one_between id r xs ys e) n
  where
    step : (b : Bool) → (first_of id (xs ++ ys) ≡ None → filter (is_record_of id) (xs ++ r ∷ ys) ≡ r ∷ [])
        → (if b then Some x else first_of id (xs ++ ys)) ≡ None → (if b then x ∷ filter (is_record_of id) (xs ++ r ∷ ys) else filter (is_record_of id) (xs ++ r ∷ ys)) ≡ r ∷ []
    step true ih n = absurd cc
    step false ih n = ih n

-- one is there then, whatever was there before
found_between : (id : ℕ) (r : CommitRecord) (xs ys : List CommitRecord) → is_record_of id r ≡ true → first_of id (xs ++ r ∷ ys) ≡ None → ⊥
found_between id r [] ys e n = none (is_record_of id r) e n
  where
    none : (b : Bool) → b ≡ true → (if b then Some r else first_of id ys) ≡ None → ⊥
    none true e n = absurd cc
    none false e n = absurd cc
found_between id r (x ∷ xs) ys e n = step (is_record_of id x) (found_between id r xs ys e) n
  where
    step : (b : Bool) → (first_of id (xs ++ r ∷ ys) ≡ None → ⊥) → (if b then Some x else first_of id (xs ++ r ∷ ys)) ≡ None → ⊥
    step true ih n = absurd cc
    step false ih n = ih n

-- what is kept of what was found is there
pub had_found : (id : ℕ) (o : Option CommitRecord) (rs : List CommitRecord) → o ≡ first_of id rs → is_some o ≡ true → first_of id rs ≡ None → ⊥
had_found id o rs e s n = never o (e ∙ n) s
  where
    never : (p : Option CommitRecord) → p ≡ None → is_some p ≡ true → ⊥
    never (Some r) e s = absurd cc
    never None e s = absurd cc

-- A record is put in.
pub found_insert : (id k : ℕ) (r : CommitRecord) (rs : List CommitRecord) → r.id ≡ id → first_of id (insert rs k r) ≡ None → ⊥
found_insert id k r rs e n = found_between id r (take k rs) (drop k rs) (is_it id r e) n

pub first_insert : (id k : ℕ) (r : CommitRecord) (rs : List CommitRecord) → r.id ≡ id → first_of id rs ≡ None → first_of id (insert rs k r) ≡ Some r
first_insert id k r rs e n = first_between id r (take k rs) (drop k rs) (is_it id r e) (ap (first_of id) (take-append-drop k rs) ∙ n)

pub others_insert : (id k : ℕ) (r : CommitRecord) (rs : List CommitRecord) → r.id ≡ id → of_others id (insert rs k r) ≡ of_others id rs
others_insert id k r rs e = others_between id r (take k rs) (drop k rs) (is_it id r e) ∙ ap (of_others id) (take-append-drop k rs)

pub one_insert : (id k : ℕ) (r : CommitRecord) (rs : List CommitRecord) → r.id ≡ id → first_of id rs ≡ None → AtMostOne id (insert rs k r)
one_insert id k r rs e n =
    let P : List CommitRecord → Type 0 = λ xs. length xs ≤ 1 in
    subst P (sym (one_between id r (take k rs) (drop k rs) (is_it id r e) (ap (first_of id) (take-append-drop k rs) ∙ n))) (grind (arith))

-- where there is none, there is at most one
pub one_where_none : (id : ℕ) (rs : List CommitRecord) → first_of id rs ≡ None → AtMostOne id rs
one_where_none id rs n = let P : List CommitRecord → Type 0 = λ xs. length xs ≤ 1 in subst P (sym (none_of id rs n)) (grind (arith))

-- The first record of an identifier is taken out.
nothing_more : (id : ℕ) (rs : List CommitRecord) → length (filter (is_record_of id) rs) ≤ 0 → first_of id rs ≡ None
nothing_more id [] o = refl
nothing_more id (y ∷ rs) o = step (is_record_of id y) (nothing_more id rs) o
  where
    step : (b : Bool) → (length (filter (is_record_of id) rs) ≤ 0 → first_of id rs ≡ None)
        → length (if b then y ∷ filter (is_record_of id) rs else filter (is_record_of id) rs) ≤ 0 → (if b then Some y else first_of id rs) ≡ None
    step true ih o = absurd (grind (arith))
    step false ih o = ih o

one_less : (n : ℕ) → suc n ≤ 1 → n ≤ 0
one_less n o = grind (arith)

pub first_without : (id : ℕ) (rs : List CommitRecord) → AtMostOne id rs → first_of id (without_first_of id rs) ≡ None
first_without id [] o = refl
first_without id (x ∷ rs) o = step (is_record_of id x) refl (first_without id rs) o
  where
    step : (b : Bool) → is_record_of id x ≡ b → (AtMostOne id rs → first_of id (without_first_of id rs) ≡ None)
        → length (if b then x ∷ filter (is_record_of id) rs else filter (is_record_of id) rs) ≤ 1 → first_of id (if b then rs else x ∷ without_first_of id rs) ≡ None
    step true q ih o = nothing_more id rs (one_less (length (filter (is_record_of id) rs)) o)
    step false q ih o = rw q (ih o)

pub others_without : (id : ℕ) (rs : List CommitRecord) → of_others id (without_first_of id rs) ≡ of_others id rs
others_without id [] = refl
others_without id (x ∷ rs) = step (is_record_of id x) refl (others_without id rs)
  where
    step : (b : Bool) → is_record_of id x ≡ b → of_others id (without_first_of id rs) ≡ of_others id rs
        → of_others id (if b then rs else x ∷ without_first_of id rs) ≡ (if not b then x ∷ of_others id rs else of_others id rs)
    step true q ih = refl
    step false q ih = rw q (ap (λ (zs : List CommitRecord). x ∷ zs) ih)
