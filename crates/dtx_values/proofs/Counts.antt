-- How many items of a list pass a test.
use Rattle.std.proofs.Common.{◌≡◌, ◌≤◌, ◌==◌, ◌∙◌, ◌||◌, not, suc, Bool, true, false, cond, List, [], ◌∷◌, length, refl, ap, arith}
use Rattle.std.proofs.lemmas.List.Sums.{length-filter}
use Rattle.std.proofs.lemmas.Bool.Decides.{nat_tests}
use Rattle.std.specs.Bool.{if◌then◌else◌}
use Rattle.std.specs.List.{count_by, filter, list_any}
use Rattle.dtx_values.specs.Table.{how_many}

-- as many pass as a filter keeps
pub how_many-filter : {A : Type 0} (p : A → Bool) (xs : List A) → how_many p xs ≡ length (filter p xs)
how_many-filter p [] = refl
how_many-filter p (x ∷ xs) = let k = how_many-filter p xs in
    elim (p x) as (λ b. (if b then suc (how_many p xs) else how_many p xs) ≡ length (cond b (x ∷ filter p xs) (filter p xs))) [ true ↦ ap suc k | false ↦ k ]

-- as many pass as std counts
pub how_many-count_by : {A : Type 0} (p : A → Bool) (xs : List A) → how_many p xs ≡ count_by p xs
how_many-count_by p xs = how_many-filter p xs ∙ length-filter p xs

-- no more pass than there are
pub how_many-le-length : {A : Type 0} (p : A → Bool) (xs : List A) → how_many p xs ≤ length xs
how_many-le-length p [] = omega arith
how_many-le-length p (x ∷ xs) = let k = how_many-le-length p xs in
    elim (p x) as (λ b. (if b then suc (how_many p xs) else how_many p xs) ≤ suc (length xs)) [ true ↦ omega arith | false ↦ omega arith ]

-- none is counted exactly where none passes
pub how_many-none : {A : Type 0} (p : A → Bool) (xs : List A) → (how_many p xs == 0) ≡ not (list_any p xs)
how_many-none p [] = refl
how_many-none p (x ∷ xs) = let k = how_many-none p xs in
    elim (p x) as (λ b. ((if b then suc (how_many p xs) else how_many p xs) == 0) ≡ not (b || list_any p xs)) [ true ↦ grind (arith, nat_tests) | false ↦ k ]
