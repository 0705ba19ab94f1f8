-- The place of an enlistment's row, and the row that stands there.
use Rattle.std.proofs.Common.{◌≡◌, ◌<◌, ◌≤◌, inl, inr, ℕ, zero, suc, Bool, true, false, ◌&&◌, ◌||◌, List, [], ◌∷◌, map, length, get_or, set, refl, ap, sym, ◌∙◌, arith, nat_lt, Option, Some, None, is_some}
use Rattle.std.proofs.lemmas.Bool.{and_parts, cases_Bool, or_from}
use Rattle.std.proofs.lemmas.List.{get_or_default}
use Rattle.std.proofs.lemmas.Bool.Decides.{leb_tells, nat_tests}
use Rattle.std.specs.List.{list_any, position, position_or_len}
use Rattle.dtx_values.specs.declared.row.Row.{Row}
use Rattle.dtx_values.specs.declared.words.Vote.{Vote}
use Rattle.dtx_values.specs.Table.{has_row, rises_above}
use Rattle.dtx_values.specs.Row.{has_voted, is_marked, is_of, mark_in, number_of, unless_there, vote_in}
use Rattle.enlist_table.proofs.Rising.{map-absent, mark-other, stands-below, stands-from, vote-other}

-- this is the place of the row
pub record IsPlace (e : ℕ) (xs : List Row) (i : ℕ) : Type 0 where
  pub first : i ≡ position_or_len (is_of e) xs
  pub within : i < length xs

-- what is found is the place
pub place_found : (e : ℕ) (xs : List Row) (i : ℕ) → Some i ≡ position (is_of e) xs → IsPlace e xs i
place_found e xs i k = elim (leb_tells (suc (position_or_len (is_of e) xs)) (length xs)) [
  | inl h ↦ let same : Some i ≡ Some (position_or_len (is_of e) xs) = rw h.0 at k in let first : i ≡ position_or_len (is_of e) xs = cc in record { first = first; within = omega (arith, first, h.1) }
  | inr h ↦ let none : Some i ≡ None = rw h.0 at k in absurd cc
]

-- no row of it stands where none is found
past_all : (e : ℕ) (xs : List Row) → length xs ≤ position_or_len (is_of e) xs → has_row e xs ≡ false
past_all e [] k = refl
past_all e (x ∷ xs) k = elim (cases_Bool (is_of e x)) [
  | inl here ↦ let k2 = rw here at k in absurd (omega (arith, k2))
  | inr away ↦ let k2 = rw away at k in or_from (is_of e x) (has_row e xs) away (past_all e xs (omega (arith, k2)))
]

pub no_place : (e : ℕ) (xs : List Row) → None ≡ position (is_of e) xs → has_row e xs ≡ false
no_place e xs k = elim (leb_tells (suc (position_or_len (is_of e) xs)) (length xs)) [
  | inl h ↦ let some : None ≡ Some (position_or_len (is_of e) xs) = rw h.0 at k in absurd cc
  | inr h ↦ past_all e xs (omega (arith, h.1))
]

-- the row of it stands where it is found
pub row_at : (e : ℕ) (xs : List Row) (i : ℕ) (d : Row) → IsPlace e xs i → is_of e (get_or xs i d) ≡ true
row_at e xs i d p = go xs i p.first p.within
  where
    go : (ys : List Row) (j : ℕ) → j ≡ position_or_len (is_of e) ys → j < length ys → is_of e (get_or ys j d) ≡ true
    go [] j k less = absurd (omega (arith, less))
    go (x ∷ ys) zero k less = elim (cases_Bool (is_of e x)) [
      | inl here ↦ here
      | inr away ↦ let k2 = rw away at k in absurd (omega (arith, k2))
    ]
    go (x ∷ ys) (suc j) k less = elim (cases_Bool (is_of e x)) [
      | inl here ↦ let k2 = rw here at k in absurd (omega (arith, k2))
      | inr away ↦ let k2 = rw away at k in go ys j (omega (arith, k2)) (omega (arith, less))
    ]

-- and so it has a row
pub has_row_at : (e : ℕ) (xs : List Row) (i : ℕ) → IsPlace e xs i → has_row e xs ≡ true
has_row_at e xs i p = go xs i p.first p.within
  where
    go : (ys : List Row) (j : ℕ) → j ≡ position_or_len (is_of e) ys → j < length ys → has_row e ys ≡ true
    go [] j k less = absurd (omega (arith, less))
    go (x ∷ ys) zero k less = elim (cases_Bool (is_of e x)) [
      | inl here ↦ rw here refl
      | inr away ↦ let k2 = rw away at k in absurd (omega (arith, k2))
    ]
    go (x ∷ ys) (suc j) k less = elim (cases_Bool (is_of e x)) [
      | inl here ↦ let k2 = rw here at k in absurd (omega (arith, k2))
      | inr away ↦ let k2 = rw away at k in rw away (go ys j (omega (arith, k2)) (omega (arith, less)))
    ]

-- none stands behind it
none_behind : (e n : ℕ) (x : Row) (ys : List Row) → rises_above n (x ∷ ys) ≡ true → is_of e x ≡ true → has_row e ys ≡ false
none_behind e n x ys r here =
    let rise = and_parts (nat_lt n (number_of x)) (rises_above (number_of x) ys) r in
    stands-below e (number_of x) ys (grind (arith, nat_tests, here)) rise.1

-- a row of it that passes a test stands where the one at its place passes
pub passes_at : (e : ℕ) (there : Row → Bool) (n : ℕ) (xs : List Row) (i : ℕ) (d : Row) (b : Bool) → rises_above n xs ≡ true → IsPlace e xs i → there (get_or xs i d) ≡ b
    → list_any (λ x. is_of e x && there x) xs ≡ b
passes_at e there n xs i d b r p h = go n xs i r p.first p.within h
  where
    go : (m : ℕ) (ys : List Row) (j : ℕ) → rises_above m ys ≡ true → j ≡ position_or_len (is_of e) ys → j < length ys → there (get_or ys j d) ≡ b → list_any (λ x. is_of e x && there x) ys ≡ b
    go m [] j rise k less t = absurd (omega (arith, less))
    go m (x ∷ ys) zero rise k less t = elim (cases_Bool (is_of e x)) [
      | inl here ↦
          let none : list_any (λ y. is_of e y && there y) ys ≡ false = stands-from e there ys (none_behind e m x ys rise here) in
          rw (here, t, none) (elim b as (λ c. (c || false) ≡ c) [ true ↦ refl | false ↦ refl ])
      | inr away ↦ let k2 = rw away at k in absurd (omega (arith, k2))
    ]
    go m (x ∷ ys) (suc j) rise k less t = elim (cases_Bool (is_of e x)) [
      | inl here ↦ let k2 = rw here at k in absurd (omega (arith, k2))
      | inr away ↦
          let k2 = rw away at k in
          let rest = and_parts (nat_lt m (number_of x)) (rises_above (number_of x) ys) rise in
          rw away (go (number_of x) ys j rest.1 (omega (arith, k2)) (omega (arith, less)) t)
    ]

-- a change of rows of it alone is a write at its place
pub written_at : (f : Row → Row) (e : ℕ) → ((x : Row) → is_of e x ≡ false → f x ≡ x) → (n : ℕ) (xs : List Row) (i : ℕ) (y d : Row) → rises_above n xs ≡ true → IsPlace e xs i
    → y ≡ f (get_or xs i d) → set xs i y ≡ map f xs
written_at f e other n xs i y d r p same = go n xs i r p.first p.within same
  where
    go : (m : ℕ) (ys : List Row) (j : ℕ) → rises_above m ys ≡ true → j ≡ position_or_len (is_of e) ys → j < length ys → y ≡ f (get_or ys j d) → set ys j y ≡ map f ys
    go m [] j rise k less s = absurd (omega (arith, less))
    go m (x ∷ ys) zero rise k less s = elim (cases_Bool (is_of e x)) [
      | inl here ↦ rw (s, map-absent f e other ys (none_behind e m x ys rise here)) refl
      | inr away ↦ let k2 = rw away at k in absurd (omega (arith, k2))
    ]
    go m (x ∷ ys) (suc j) rise k less s = elim (cases_Bool (is_of e x)) [
      | inl here ↦ let k2 = rw here at k in absurd (omega (arith, k2))
      | inr away ↦
          let k2 = rw away at k in
          let rest = and_parts (nat_lt m (number_of x)) (rises_above (number_of x) ys) rise in
          rw (other x away, go (number_of x) ys j rest.1 (omega (arith, k2)) (omega (arith, less)) s) refl
    ]

-- what isn't there is put
put_there : {A : Type 0} (o : Option A) (x : A) → is_some o ≡ false → Some x ≡ unless_there o x
put_there (Some y) x s = absurd cc
put_there None x s = refl

-- a row of it without a mark is marked
pub marked_row : (e n : ℕ) (x : Row) → is_of e x ≡ true → is_marked x ≡ false → record { number = x.number; class = x.class; added = x.added; asked = Some n; vote = x.vote } ≡ mark_in e n x
marked_row e n x here new = rw here (ap (λ (o : Option ℕ). record { number = x.number; class = x.class; added = x.added; asked = o; vote = x.vote }) (put_there x.asked n new))

-- a row of it without a vote has the vote
pub voted_row : (e : ℕ) (v : Vote) (x : Row) → is_of e x ≡ true → has_voted x ≡ false → record { number = x.number; class = x.class; added = x.added; asked = x.asked; vote = Some v } ≡ vote_in e v x
voted_row e v x here new = rw here (ap (λ (o : Option Vote). record { number = x.number; class = x.class; added = x.added; asked = x.asked; vote = o }) (put_there x.vote v new))

-- a row that passes at its place, read twice
read_twice : (there : Row → Bool) (xs : List Row) (i : ℕ) (x r : Row) (b : Bool) → i < length xs → x ≡ get_or xs i x → r ≡ get_or xs i r → there r ≡ b → there x ≡ b
read_twice there xs i x r b within x_is r_is h = ap there (x_is ∙ get_or_default xs i x r within ∙ sym r_is) ∙ h

-- the mark of a row without one is written at its place
pub marked_at : (e n : ℕ) (xs : List Row) (i : ℕ) (x r : Row) → rises_above 0 xs ≡ true → IsPlace e xs i → x ≡ get_or xs i x → r ≡ get_or xs i r → is_marked r ≡ false
    → set xs i (record { number = x.number; class = x.class; added = x.added; asked = Some n; vote = x.vote }) ≡ map (mark_in e n) xs
marked_at e n xs i x r rise p x_is r_is new =
    let f : Row → Row = mark_in e n in
    written_at f e (mark-other e n) 0 xs i _ x rise p (marked_row e n x (ap (is_of e) x_is ∙ row_at e xs i x p) (read_twice is_marked xs i x r false p.within x_is r_is new) ∙ ap f x_is)

-- the vote of a row without one is written at its place
pub voted_at : (e : ℕ) (v : Vote) (xs : List Row) (i : ℕ) (x r : Row) → rises_above 0 xs ≡ true → IsPlace e xs i → x ≡ get_or xs i x → r ≡ get_or xs i r → has_voted r ≡ false
    → set xs i (record { number = x.number; class = x.class; added = x.added; asked = x.asked; vote = Some v }) ≡ map (vote_in e v) xs
voted_at e v xs i x r rise p x_is r_is new =
    let f : Row → Row = vote_in e v in
    written_at f e (vote-other e v) 0 xs i _ x rise p (voted_row e v x (ap (is_of e) x_is ∙ row_at e xs i x p) (read_twice has_voted xs i x r false p.within x_is r_is new) ∙ ap f x_is)
