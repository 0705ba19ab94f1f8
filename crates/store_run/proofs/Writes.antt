-- What a key has after a write.
use Rattle.std.proofs.Common.{◌≡◌, ℕ, inl, inr, true, false, eqb, nat_lt, List, [], ◌∷◌, Some, refl, arith}
use Rattle.std.proofs.lemmas.Bool.{cases_Bool}
use Rattle.std.proofs.lemmas.Bool.Decides.{nat_tests}
use Rattle.kv_resource.specs.Store.{get_in, with_write}

-- a key has what was written to it
pub get_here : (k v : ℕ) (t : List (ℕ × ℕ)) → get_in k (with_write k v t) ≡ Some v
get_here k v [] = let here : eqb k k ≡ true = grind (arith, nat_tests) in rw here refl
get_here k v (w ∷ t) =
    let here : eqb k k ≡ true = grind (arith, nat_tests) in
    elim (cases_Bool (nat_lt w.0 k)) [
      | inl below ↦ let other : eqb k w.0 ≡ false = grind (arith, nat_tests) in rw (below, other) (get_here k v t)
      | inr above ↦ elim (cases_Bool (eqb w.0 k)) [
        | inl same ↦ rw (above, same, here) refl
        | inr other ↦ rw (above, other, here) refl
      ]
    ]

-- and another key has what it had
pub get_other : (j k v : ℕ) (t : List (ℕ × ℕ)) → eqb j k ≡ false → get_in j (with_write k v t) ≡ get_in j t
get_other j k v [] not = rw not refl
get_other j k v (w ∷ t) not =
    elim (cases_Bool (nat_lt w.0 k)) [
      | inl below ↦ elim (cases_Bool (eqb j w.0)) [
        | inl here ↦ rw (below, here) refl
        | inr other ↦ rw (below, other) (get_other j k v t not)
      ]
      | inr above ↦ elim (cases_Bool (eqb w.0 k)) [
        | inl same ↦ let other : eqb j w.0 ≡ false = grind (arith, nat_tests) in rw (above, same, not, other) refl
        | inr other ↦ rw (above, other, not) refl
      ]
    ]
