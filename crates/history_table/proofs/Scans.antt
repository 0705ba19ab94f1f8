-- Facts on scans of a list.
use Rattle.std.proofs.Common.{◌≡◌, Bool, true, List, [], ◌∷◌, refl, false, ◌++◌, ◌∙◌, ℕ, zero, suc, Some, ◌||◌, Option, None}
use Rattle.std.specs.Prelude.{find, if◌then◌else◌}
use Rattle.std.specs.List.{slice_get}
use Rattle.std.proofs.lemmas.List.Folds.{list_all-append}
use Rattle.std.proofs.lemmas.Bool.{or_left, false_from_ne_true}
use Rattle.dtx_model.specs.Words.{each, has, kth, onto}
use Rattle.dtx_model.proofs.Bools.{and_left, and_right, and_both, or_false, or_case, or_right, not_both}
use Rattle.dtx_model.proofs.Reading.{has-onto}

-- where each passes p, and what passes p passes q, each passes q
pub each_more : {A : Type 0} (p q : A → Bool) → ((x : A) → p x ≡ true → q x ≡ true) → (xs : List A) → each p xs ≡ true → each q xs ≡ true
each_more p q sub [] h = refl
each_more p q sub (x ∷ xs) h =
    and_both (q x) (each q xs) (sub x (and_left (p x) (each p xs) h)) (each_more p q sub xs (and_right (p x) (each p xs) h))

-- where each passes p, and what passes p fails q, none passes q
pub none_more : {A : Type 0} (p q : A → Bool) → ((x : A) → p x ≡ true → q x ≡ false) → (xs : List A) → each p xs ≡ true → has q xs ≡ false
none_more p q sub [] h = refl
none_more p q sub (x ∷ xs) h =
    or_false (q x) (has q xs) (sub x (and_left (p x) (each p xs) h)) (none_more p q sub xs (and_right (p x) (each p xs) h))

-- where some passes p, and what passes p passes q, some passes q
pub has_more : {A : Type 0} (p q : A → Bool) → ((x : A) → p x ≡ true → q x ≡ true) → (xs : List A) → has p xs ≡ true → has q xs ≡ true
has_more p q sub [] h = h
has_more p q sub (x ∷ xs) h =
    or_case (p x) (has p xs) (λ k. or_left (q x) (has q xs) (sub x k)) (λ k. or_right (q x) (has q xs) (has_more p q sub xs k)) h

-- where none passes q, and what passes p passes q, none passes p
pub has_less : {A : Type 0} (p q : A → Bool) → ((x : A) → p x ≡ true → q x ≡ true) → (xs : List A) → has q xs ≡ false → has p xs ≡ false
has_less p q sub xs h = false_from_ne_true (has p xs) (λ k. not_both (has q xs) (has_more p q sub xs k) h)

-- where each passes p and each passes q, and what passes both passes r, each passes r
pub each_both : {A : Type 0} (p q r : A → Bool) → ((x : A) → p x ≡ true → q x ≡ true → r x ≡ true) → (xs : List A)
    → each p xs ≡ true → each q xs ≡ true → each r xs ≡ true
each_both p q r sub [] h k = refl
each_both p q r sub (x ∷ xs) h k =
    and_both (r x) (each r xs) (sub x (and_left (p x) (each p xs) h) (and_left (q x) (each q xs) k))
    (each_both p q r sub xs (and_right (p x) (each p xs) h) (and_right (q x) (each q xs) k))

-- each passes p in two lists together where each does in both
pub each-append : {A : Type 0} (p : A → Bool) → (xs ys : List A) → each p xs ≡ true → each p ys ≡ true → each p (xs ++ ys) ≡ true
each-append p xs ys h k = list_all-append p xs ys ∙ and_both (each p xs) (each p ys) h k

-- where each passes, the one at a place passes
pub each-at : {A : Type 0} (p : A → Bool) → (xs : List A) (k : ℕ) (x : A) → each p xs ≡ true → slice_get xs k ≡ Some x → p x ≡ true
each-at p [] k x h e = absurd cc
each-at p (y ∷ xs) zero x h e = let same : y ≡ x = cc in let first : p y ≡ true = and_left (p y) (each p xs) h in rw (← same) first
each-at p (y ∷ xs) (suc k) x h e = each-at p xs k x (and_right (p y) (each p xs) h) e

-- where each passes, the k-th passes
pub each-kth : {A : Type 0} (p : A → Bool) (xs : List A) (k : ℕ) (x : A) → each p xs ≡ true → kth xs k ≡ Some x → p x ≡ true
each-kth p xs zero x h e = absurd cc
each-kth p xs (suc k) x h e = each-at p xs k x h e

-- none was found: none passes
pub find_none : {A : Type 0} (p : A → Bool) → (xs : List A) → find p xs ≡ None → has p xs ≡ false
find_none p [] h = refl
find_none p (x ∷ xs) h = step (p x) x (find p xs) (has p xs) (find_none p xs) h
  where
    step : {A : Type 0} (b : Bool) (x : A) (o : Option A) (rest : Bool) → (o ≡ None → rest ≡ false) → (if b then Some x else o) ≡ None → (b || rest) ≡ false
    step true x o rest ih h = absurd cc
    step false x o rest ih h = ih h

-- what stands stands after a block
pub has_after : {A : Type 0} (p : A → Bool) (past es : List A) → has p past ≡ true → has p (onto past es) ≡ true
has_after p past es k = has-onto p past es ∙ or_right (has p es) (has p past) k
