-- More of what holds of each item of a list, and of what is found there.
use Rattle.std.proofs.Common.{◌≡◌, Bool, ◌&&◌, List, [], ◌∷◌, ◌++◌, refl, ◌∙◌, ap, true, ℕ, false, zero, suc, Option, Some, subst, sym}
use Rattle.std.specs.Prelude.{find, if◌then◌else◌}
use Rattle.std.specs.List.{slice_get}
use Rattle.dtx_values.specs.Table.{how_many, insert_by}
use Rattle.dtx_model.specs.Words.{each, has}
use Rattle.dtx_model.proofs.Bools.{and_swap, or_right}
use Rattle.dtx_model.proofs.Counts.{how_many-insert_by}
use Rattle.history_table.proofs.Lists.{OfEach, of-more}

-- each passes with one more after where it passes and each other does
pub each-behind : {A : Type 0} (p : A → Bool) (x : A) (xs : List A) → each p (xs ++ x ∷ []) ≡ (p x && each p xs)
each-behind p x [] = refl
each-behind p x (y ∷ ys) = ap (λ b. p y && b) (each-behind p x ys) ∙ and_swap (p y) (p x) (each p ys)

-- what P and Q hold of each, they hold of each together
pub of-both : {A : Type 0} (P Q : A → Type 0) (xs : List A) → OfEach P xs → OfEach Q xs → OfEach (λ x. P x × Q x) xs
of-both P Q [] h k = tt
of-both P Q (x ∷ xs) h k = ((h.0, k.0), of-both P Q xs h.1 k.1)

-- of each it is so that where it passes, one passes
pub of-has : {A : Type 0} (p : A → Bool) (xs : List A) → OfEach (λ x. p x ≡ true → has p xs ≡ true) xs
of-has p [] = tt
of-has p (x ∷ xs) = (
  λ h. rw h refl,
  of-more (λ y. p y ≡ true → has p xs ≡ true) (λ y. p y ≡ true → has p (x ∷ xs) ≡ true) (λ y f h. or_right (p x) (has p xs) (f h)) xs (of-has p xs),
)

-- as many pass with one more at its place that doesn't
pub how_many-insert : {A : Type 0} (p : A → Bool) (key : A → ℕ) (x : A) → p x ≡ false → (xs : List A) → how_many p (insert_by key x xs) ≡ how_many p xs
how_many-insert p key x f xs = how_many-insert_by p key x xs ∙ rw f refl

-- where one at a place passes, one is found
pub found_there : {A : Type 0} (p : A → Bool) (xs : List A) (k : ℕ) (x : A) → slice_get xs k ≡ Some x → p x ≡ true → (y : A) × (find p xs ≡ Some y)
found_there p [] k x e f = absurd cc
found_there p (z ∷ zs) zero x e f = let same : z ≡ x = cc in let here : p z ≡ true = subst (λ w. p w ≡ true) (sym same) f in (z, rw here refl)
found_there p (z ∷ zs) (suc k) x e f = step (p z) z (find p zs) (found_there p zs k x e f)
  where
    step : {A : Type 0} (b : Bool) (z : A) (o : Option A) → (y : A) × (o ≡ Some y) → (y : A) × ((if b then Some z else o) ≡ Some y)
    step true z o r = (z, refl)
    step false z o r = r
