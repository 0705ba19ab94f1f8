-- Texts cut at a separator.
use Rattle.std.proofs.Common.{◌≡◌, ℕ, ◌==◌, false, List, [], ◌∷◌, ◌++◌, refl, ap, arith}
use Rattle.std.proofs.lemmas.Bool.{eq-eqb}
use Rattle.std.proofs.lemmas.Bool.Decides.{nat_tests}
use Rattle.dtx_model.specs.Words.{has}
use Rattle.dtx_model.proofs.Bools.{or_first, or_second}
use Rattle.line_tail.specs.Cut.{IsWithout, front, behind}

-- a byte of a text without c isn't c
head_differs : (c x : ℕ) (xs : List ℕ) → IsWithout c (x ∷ xs) → c ≡ x → ⊥
head_differs c x xs h e = grind (arith, nat_tests)

-- the rest of a text without c is without c
tail_without : (c x : ℕ) (xs : List ℕ) → IsWithout c (x ∷ xs) → IsWithout c xs
tail_without c x xs h = grind (arith, nat_tests)

-- two texts that are cut at their first c are cut at one place
pub cut_same : (c : ℕ) (v w r s : List ℕ) → IsWithout c v → IsWithout c w → v ++ c ∷ r ≡ w ++ c ∷ s → (v ≡ w) × (r ≡ s)
cut_same c [] [] r s hv hw e = (refl, cc)
cut_same c [] (y ∷ w) r s hv hw e = absurd (head_differs c y w hw cc)
cut_same c (x ∷ v) [] r s hv hw e = absurd (head_differs c x v hv cc)
cut_same c (x ∷ v) (y ∷ w) r s hv hw e =
    let rest : v ++ c ∷ r ≡ w ++ c ∷ s = cc in
    let head : x ≡ y = cc in
    let k = cut_same c v w r s (tail_without c x v hv) (tail_without c y w hw) rest in
    (cc, k.1)

-- a text without c isn't cut there
pub cut_none : (c : ℕ) (v w r : List ℕ) → IsWithout c v → v ≡ w ++ c ∷ r → ⊥
cut_none c [] [] r h e = cc
cut_none c [] (y ∷ w) r h e = cc
cut_none c (x ∷ v) [] r h e = head_differs c x v h cc
cut_none c (x ∷ v) (y ∷ w) r h e = cut_none c v w r (tail_without c x v h) cc

-- two texts without c are so together
pub without_append : (c : ℕ) (xs ys : List ℕ) → IsWithout c xs → IsWithout c ys → IsWithout c (xs ++ ys)
without_append c [] ys hx hy = hy
without_append c (x ∷ xs) ys hx hy =
    let k = without_append c xs ys (tail_without c x xs hx) hy in
    grind (arith, nat_tests)

-- a byte of a text without c isn't c, as a test
other_byte : (c x : ℕ) (xs : List ℕ) → IsWithout c (x ∷ xs) → (x == c) ≡ false
other_byte c x xs h = or_first (x == c) (has (λ b. b == c) xs) h

-- what comes before the first c
pub front_cut : (c : ℕ) (a b : List ℕ) → IsWithout c a → front c (a ++ c ∷ b) ≡ a
front_cut c [] b h = rw (eq-eqb c c refl) refl
front_cut c (x ∷ a) b h = rw (other_byte c x a h) (ap (λ (t : List ℕ). x ∷ t) (front_cut c a b (or_second (x == c) _ h)))

-- and what comes after it
pub behind_cut : (c : ℕ) (a b : List ℕ) → IsWithout c a → behind c (a ++ c ∷ b) ≡ b
behind_cut c [] b h = rw (eq-eqb c c refl) refl
behind_cut c (x ∷ a) b h = rw (other_byte c x a h) (behind_cut c a b (or_second (x == c) _ h))

-- a text without c comes before it whole
pub front_whole : (c : ℕ) (a : List ℕ) → IsWithout c a → front c a ≡ a
front_whole c [] h = refl
front_whole c (x ∷ a) h = rw (other_byte c x a h) (ap (λ (t : List ℕ). x ∷ t) (front_whole c a (or_second (x == c) _ h)))

-- and nothing comes after
pub behind_whole : (c : ℕ) (a : List ℕ) → IsWithout c a → behind c a ≡ []
behind_whole c [] h = refl
behind_whole c (x ∷ a) h = rw (other_byte c x a h) (behind_whole c a (or_second (x == c) _ h))
