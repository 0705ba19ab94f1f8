-- Words that are compared byte by byte.
use Rattle.std.proofs.Common.{◌≡◌, ◌≢◌, ℕ, ◌==◌, true, false, List, [], ◌∷◌, refl, arith}
use Rattle.std.proofs.lemmas.Bool.{false_from_ne_true}
use Rattle.std.proofs.lemmas.Bool.Decides.{nat_tests}
use Rattle.dtx_model.specs.Faults.{same_bytes}
use Rattle.dtx_model.proofs.Bools.{and_both, and_left, and_right}

-- a word is the same as itself
pub same_bytes-refl : (w : List ℕ) → same_bytes w w ≡ true
same_bytes-refl [] = refl
same_bytes-refl (x ∷ w) = and_both (x == x) (same_bytes w w) (grind (arith, nat_tests)) (same_bytes-refl w)

-- words that are equal are the same
pub same_text : (v w : List ℕ) → v ≡ w → same_bytes v w ≡ true
same_text v w e = rw (← e) (same_bytes-refl v)

-- words that are the same are equal
pub same_bytes-equal : (v w : List ℕ) → same_bytes v w ≡ true → v ≡ w
same_bytes-equal [] [] h = refl
same_bytes-equal [] (y ∷ w) h = absurd cc
same_bytes-equal (x ∷ v) [] h = absurd cc
same_bytes-equal (x ∷ v) (y ∷ w) h =
    let rest = same_bytes-equal v w (and_right (x == y) _ h) in
    let head : x ≡ y = grind (arith, nat_tests, and_left (x == y) (same_bytes v w) h) in
    cc

-- a word that is another isn't the same
pub same_bytes-other : (v w : List ℕ) → v ≢ w → same_bytes v w ≡ false
same_bytes-other v w h = false_from_ne_true (same_bytes v w) (λ e. h (same_bytes-equal v w e))
