-- The numbers of a table's rows rise, so that no two rows have the same number.
use Rattle.std.proofs.Common.{◌≡◌, ◌<◌, ◌≤◌, inl, inr, ℕ, suc, Bool, true, false, ◌==◌, ◌&&◌, List, [], ◌∷◌, map, refl, ap, arith, nat_lt, Option, Some, None, is_some}
use Rattle.dtx_values.specs.declared.row.Row.{Row}
use Rattle.std.proofs.lemmas.Bool.{and_from, and_left, and_parts, cases_Bool, or_cases, or_from, or_parts}
use Rattle.std.proofs.lemmas.Bool.Decides.{leb_tells, nat_tests}
use Rattle.std.specs.Bool.{if◌then◌else◌}
use Rattle.std.specs.List.{list_any}
use Rattle.dtx_values.specs.declared.words.Vote.{Vote}
use Rattle.dtx_values.specs.Table.{insert_by, has_row, rises_above}
use Rattle.dtx_values.specs.Row.{mark_in, vote_in, has_voted, is_marked, is_of, mark_row, number_of, unless_there, vote_row}

-- a change that leaves each number leaves them rising
pub rises-map : (f : Row → Row) → ((x : Row) → number_of (f x) ≡ number_of x) → (n : ℕ) (xs : List Row) → rises_above n (map f xs) ≡ rises_above n xs
rises-map f same n [] = refl
rises-map f same n (x ∷ xs) = rw (same x, rises-map f same (number_of x) xs) refl

-- a mark leaves a row's number
pub number-mark : (e n : ℕ) (x : Row) → number_of (mark_in e n x) ≡ number_of x
number-mark e n x = elim (is_of e x) as (λ b. number_of (if b then mark_row n x else x) ≡ number_of x) [ true ↦ refl | false ↦ refl ]

-- a vote leaves a row's number
pub number-vote : (e : ℕ) (v : Vote) (x : Row) → number_of (vote_in e v x) ≡ number_of x
number-vote e v x = elim (is_of e x) as (λ b. number_of (if b then vote_row v x else x) ≡ number_of x) [ true ↦ refl | false ↦ refl ]

-- the numbers still rise with a new row at its place
pub rises-insert : (x : Row) (n : ℕ) (xs : List Row) → n < number_of x → has_row (number_of x) xs ≡ false → rises_above n xs ≡ true
    → rises_above n (insert_by number_of x xs) ≡ true
rises-insert x n [] low new r = grind (arith, nat_tests)
rises-insert x n (y ∷ ys) low new r =
    let old = and_parts (nat_lt n (number_of y)) (rises_above (number_of y) ys) r in
    let apart = or_parts (number_of x == number_of y) (has_row (number_of x) ys) new in
    elim (leb_tells (suc (number_of y)) (number_of x)) [
      | inl k ↦ rw k.0 (and_from _ _ old.0 (rises-insert x (number_of y) ys k.1 apart.1 old.1))
      | inr k ↦ rw k.0 (and_from (nat_lt n (number_of x)) (rises_above (number_of x) (y ∷ ys)) (grind (arith, nat_tests))
          (and_from (nat_lt (number_of x) (number_of y)) (rises_above (number_of y) ys) (grind (arith, nat_tests, apart.0)) old.1))
    ]

-- no row has a number that the numbers rise above
pub stands-below : (e n : ℕ) (xs : List Row) → e ≤ n → rises_above n xs ≡ true → has_row e xs ≡ false
stands-below e n [] le r = refl
stands-below e n (x ∷ xs) le r =
    let rise = and_parts (nat_lt n (number_of x)) (rises_above (number_of x) xs) r in
    or_from (e == number_of x) (has_row e xs) (grind (arith, nat_tests, rise.0)) (stands-below e (number_of x) xs (grind (arith, nat_tests, rise.0)) rise.1)

-- a change of rows with this number alone changes nothing where none stands
pub map-absent : (f : Row → Row) (e : ℕ) → ((x : Row) → is_of e x ≡ false → f x ≡ x) → (xs : List Row) → has_row e xs ≡ false → map f xs ≡ xs
map-absent f e other [] s = refl
map-absent f e other (x ∷ xs) s =
    let apart = or_parts (is_of e x) (has_row e xs) s in
    rw (other x apart.0, map-absent f e other xs apart.1) refl

-- a row that passes a test stands
pub stands-from : (e : ℕ) (there : Row → Bool) (xs : List Row) → has_row e xs ≡ false → list_any (λ x. is_of e x && there x) xs ≡ false
stands-from e there [] s = refl
stands-from e there (x ∷ xs) s =
    let apart = or_parts (is_of e x) (has_row e xs) s in
    or_from (is_of e x && there x) (list_any (λ y. is_of e y && there y) xs) (and_left (is_of e x) (there x) apart.0) (stands-from e there xs apart.1)

-- a change of rows with this number alone, which leaves one that passes the test, changes nothing where one passes
pub map-there : (f : Row → Row) (e : ℕ) (there : Row → Bool) → ((x : Row) → is_of e x ≡ false → f x ≡ x)
    → ((x : Row) → there x ≡ true → f x ≡ x) → (n : ℕ) (xs : List Row) → rises_above n xs ≡ true → list_any (λ x. is_of e x && there x) xs ≡ true → map f xs ≡ xs
map-there f e there other kept n [] r p = refl
map-there f e there other kept n (x ∷ xs) r p =
    let rise = and_parts (nat_lt n (number_of x)) (rises_above (number_of x) xs) r in
    elim (or_cases (is_of e x && there x) (list_any (λ y. is_of e y && there y) xs) p) [
      | inl q ↦
          let both = and_parts (is_of e x) (there x) q in
          rw (kept x both.1, map-absent f e other xs (stands-below e (number_of x) xs (grind (arith, nat_tests, both.0)) rise.1)) refl
      | inr q ↦
          let same = map-there f e there other kept (number_of x) xs rise.1 q in
          elim (cases_Bool (is_of e x)) [
            | inl here ↦ let none = stands-from e there xs (stands-below e (number_of x) xs (grind (arith, nat_tests, here)) rise.1) in absurd cc
            | inr away ↦ rw (other x away, same) refl
          ]
    ]

-- what stands there stays
pub there-stays : {A : Type 0} (o : Option A) (x : A) → is_some o ≡ true → unless_there o x ≡ o
there-stays (Some y) x s = refl
there-stays None x s = absurd cc

-- a mark changes no other row
pub mark-other : (e n : ℕ) (x : Row) → is_of e x ≡ false → mark_in e n x ≡ x
mark-other e n x away = rw away refl

-- a mark leaves a marked row
pub mark-kept : (e n : ℕ) (x : Row) → is_marked x ≡ true → mark_in e n x ≡ x
mark-kept e n x there =
    let same : mark_row n x ≡ x = ap (λ (o : Option ℕ). record { number = x.number; class = x.class; added = x.added; asked = o; vote = x.vote }) (there-stays x.asked n there) in
    elim (is_of e x) as (λ b. (if b then mark_row n x else x) ≡ x) [ true ↦ same | false ↦ refl ]

-- a vote changes no other row
pub vote-other : (e : ℕ) (v : Vote) (x : Row) → is_of e x ≡ false → vote_in e v x ≡ x
vote-other e v x away = rw away refl

-- a vote leaves a row with a vote
pub vote-kept : (e : ℕ) (v : Vote) (x : Row) → has_voted x ≡ true → vote_in e v x ≡ x
vote-kept e v x there =
    let same : vote_row v x ≡ x = ap (λ (o : Option Vote). record { number = x.number; class = x.class; added = x.added; asked = x.asked; vote = o }) (there-stays x.vote v there) in
    elim (is_of e x) as (λ b. (if b then vote_row v x else x) ≡ x) [ true ↦ same | false ↦ refl ]
