-- Where a write goes among others.
use Rattle.std.specs.Prelude.{insert}
use Rattle.std.proofs.Common.{◌≡◌, inl, inr, ℕ, suc, ◌≤◌, ◌<◌, Bool, true, false, ◌&&◌, eqb, nat_lt, List, [], ◌∷◌, length, get_or, set, Option, Some, refl, sym, ap, ◌∙◌, arith}
use Rattle.std.proofs.lemmas.Bool.{cases_Bool}
use Rattle.std.proofs.lemmas.Bool.Decides.{nat_tests}
use Rattle.kv_resource.specs.Bytes.{are_spelled, is_above}
use Rattle.kv_resource.specs.Store.{place_in, with_write, wrote_key}

-- a write goes to its place, in place of one to the same key
pub write_over : (k v : ℕ) (ws : List (ℕ × ℕ)) (d : ℕ × ℕ) → place_in k ws < length ws → (get_or ws (place_in k ws) d).0 ≡ k → set ws (place_in k ws) (k, v) ≡ with_write k v ws
write_over k v [] d lt is = absurd (omega arith)
write_over k v (w ∷ ws) d lt is = elim (cases_Bool (nat_lt w.0 k)) [
  | inl below ↦
      let at : place_in k (w ∷ ws) ≡ suc (place_in k ws) = rw below refl in
      let less : place_in k ws < length ws = omega arith in
      let here : (get_or ws (place_in k ws) d).0 ≡ k = rw at at is in
      rw (at, below) (ap (λ (l : List (ℕ × ℕ)). w ∷ l) (write_over k v ws d less here))
  | inr above ↦
      let at : place_in k (w ∷ ws) ≡ 0 = rw above refl in
      let here : w.0 ≡ k = rw at at is in
      let same : eqb w.0 k ≡ true = grind (arith, nat_tests) in
      rw (at, above, same) refl
]

-- or between the others
pub write_between : (k v : ℕ) (ws : List (ℕ × ℕ)) (d : ℕ × ℕ) → (place_in k ws < length ws → (get_or ws (place_in k ws) d).0 ≡ k → ⊥) → insert ws (place_in k ws) (k, v) ≡ with_write k v ws
write_between k v [] d not = refl
write_between k v (w ∷ ws) d not = elim (cases_Bool (nat_lt w.0 k)) [
  | inl below ↦
      let at : place_in k (w ∷ ws) ≡ suc (place_in k ws) = rw below refl in
      let other : place_in k ws < length ws → (get_or ws (place_in k ws) d).0 ≡ k → ⊥ = λ lt is. not (omega arith) (ap (λ (n : ℕ). (get_or (w ∷ ws) n d).0) at ∙ is) in
      rw (at, below) (ap (λ (l : List (ℕ × ℕ)). w ∷ l) (write_between k v ws d other))
  | inr above ↦
      let at : place_in k (w ∷ ws) ≡ 0 = rw above refl in
      let less : place_in k (w ∷ ws) < length (w ∷ ws) = omega arith in
      let other : w.0 ≡ k → ⊥ = λ is. not less (ap (λ (n : ℕ). (get_or (w ∷ ws) n d).0) at ∙ is) in
      let test : eqb w.0 k ≡ false = grind (arith, nat_tests) in
      rw (at, above, test) refl
]

-- the place of a write is among the others or right behind them
pub place_within : (k : ℕ) (ws : List (ℕ × ℕ)) → place_in k ws ≤ length ws
place_within k [] = omega arith
place_within k (w ∷ ws) = elim (cases_Bool (nat_lt w.0 k)) [
  | inl below ↦ let at : place_in k (w ∷ ws) ≡ suc (place_in k ws) = rw below refl in let h = place_within k ws in omega arith
  | inr above ↦ let at : place_in k (w ∷ ws) ≡ 0 = rw above refl in omega arith
]

-- the parts of writes that are spelled
pub spelled_parts : (before : Option ℕ) (w : ℕ × ℕ) (ws : List (ℕ × ℕ)) → are_spelled before (w ∷ ws) ≡ true
    → (is_above before w.0 ≡ true) × (nat_lt w.0 4294967296 ≡ true) × (nat_lt w.1 18446744073709551616 ≡ true) × (are_spelled (Some w.0) ws ≡ true)
spelled_parts before w ws e = parts (is_above before w.0) (nat_lt w.0 4294967296) (nat_lt w.1 18446744073709551616) (are_spelled (Some w.0) ws) e
  where
    parts : (a b c d : Bool) → (a && (b && c) && d) ≡ true → (a ≡ true) × (b ≡ true) × (c ≡ true) × (d ≡ true)
    parts true true true true e = (refl, refl, refl, refl)
    parts true true true false e = absurd cc
    parts true true false d e = absurd cc
    parts true false c d e = absurd cc
    parts false b c d e = absurd cc

-- and together
pub spelled_of : (before : Option ℕ) (w : ℕ × ℕ) (ws : List (ℕ × ℕ)) → is_above before w.0 ≡ true → nat_lt w.0 4294967296 ≡ true → nat_lt w.1 18446744073709551616 ≡ true → are_spelled (Some w.0) ws ≡ true
    → are_spelled before (w ∷ ws) ≡ true
spelled_of before w ws a b c d = rw (a, b, c, d) refl

-- writes stay spelled with one more
pub write_spelled : (before : Option ℕ) (k v : ℕ) (ws : List (ℕ × ℕ)) → is_above before k ≡ true → k < 4294967296 → v < 18446744073709551616 → are_spelled before ws ≡ true → are_spelled before (with_write k v ws) ≡ true
write_spelled before k v [] a kf vf e = spelled_of before (k, v) [] a (grind (arith, nat_tests)) (grind (arith, nat_tests)) refl
write_spelled before k v (w ∷ ws) a kf vf e =
    let p = spelled_parts before w ws e in
    let kt : nat_lt k 4294967296 ≡ true = grind (arith, nat_tests) in
    let vt : nat_lt v 18446744073709551616 ≡ true = grind (arith, nat_tests) in
    elim (cases_Bool (nat_lt w.0 k)) [
      | inl below ↦ rw below (spelled_of before w (with_write k v ws) p.0 p.1 p.2 (write_spelled (Some w.0) k v ws below kf vf p.3))
      | inr above ↦ elim (cases_Bool (eqb w.0 k)) [
        | inl same ↦
            let is : w.0 ≡ k = grind (arith, nat_tests) in
            rw (above, same) (spelled_of before (k, v) ws a kt vt (ap (λ (n : ℕ). are_spelled (Some n) ws) (sym is) ∙ p.3))
        | inr other ↦
            let less : nat_lt k w.0 ≡ true = grind (arith, nat_tests) in
            rw (above, other) (spelled_of before (k, v) (w ∷ ws) a kt vt (spelled_of (Some k) w ws less p.1 p.2 p.3))
      ]
    ]

-- where no write of rising keys is above the key, none is to it
none_above : (k j : ℕ) (ws : List (ℕ × ℕ)) → k ≤ j → are_spelled (Some j) ws ≡ true → wrote_key k ws ≡ false
none_above k j [] le e = refl
none_above k j (w ∷ ws) le e =
    let p = spelled_parts (Some j) w ws e in
    let less : j < w.0 = grind (arith, nat_tests, p.0) in
    let other : eqb k w.0 ≡ false = grind (arith, nat_tests) in
    rw other (none_above k w.0 ws (omega arith) p.3)

-- a key that was written is at its place
pub place_of_written : (before : Option ℕ) (k : ℕ) (ws : List (ℕ × ℕ)) (d : ℕ × ℕ) → are_spelled before ws ≡ true → wrote_key k ws ≡ true → (place_in k ws < length ws) × ((get_or ws (place_in k ws) d).0 ≡ k)
place_of_written before k [] d e has = absurd cc
place_of_written before k (w ∷ ws) d e has =
    let p = spelled_parts before w ws e in
    elim (cases_Bool (nat_lt w.0 k)) [
      | inl below ↦
          let other : eqb k w.0 ≡ false = grind (arith, nat_tests) in
          let rest : wrote_key k ws ≡ true = rw other at has in
          let h = place_of_written (Some w.0) k ws d p.3 rest in
          let at : place_in k (w ∷ ws) ≡ suc (place_in k ws) = rw below refl in
          (let lt = h.0 in omega arith, ap (λ (n : ℕ). (get_or (w ∷ ws) n d).0) at ∙ h.1)
      | inr above ↦
          let at : place_in k (w ∷ ws) ≡ 0 = rw above refl in
          elim (cases_Bool (eqb k w.0)) [
            | inl same ↦ (omega arith, ap (λ (n : ℕ). (get_or (w ∷ ws) n d).0) at ∙ (let is : w.0 ≡ k = grind (arith, nat_tests) in is))
            | inr other ↦
                let le : k ≤ w.0 = grind (arith, nat_tests) in
                let none : wrote_key k (w ∷ ws) ≡ false = rw other (none_above k w.0 ws le p.3) in
                absurd cc
          ]
    ]

-- with one more there is one at least
pub write_some : (k v : ℕ) (ws : List (ℕ × ℕ)) → 1 ≤ length (with_write k v ws)
write_some k v [] = omega arith
write_some k v (w ∷ ws) = elim (cases_Bool (nat_lt w.0 k)) [
  | inl below ↦ rw below (omega arith)
  | inr above ↦ elim (cases_Bool (eqb w.0 k)) [ inl same ↦ rw (above, same) (omega arith) | inr other ↦ rw (above, other) (omega arith) ]
]
