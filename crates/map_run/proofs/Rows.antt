-- Two tables in order of key with the same value at each key are the same.
use Rattle.std.proofs.Common.{ℕ, suc, ◌≡◌, ◌==◌, ◌<◌, ◌≤◌, nat_lt, Bool, true, false, cond, List, [], ◌∷◌, map, Option, Some, None, refl, sym, subst, ap, ◌∙◌, arith}
use Rattle.std.specs.Prelude.{if◌then◌else◌}
use Rattle.std.proofs.lemmas.Bool.{ne_eqb, eq-eqb}
use Rattle.std.proofs.lemmas.Bool.Decides.{nat_tests}
use Rattle.heard_notes.specs.Tables.{with_value}
use Rattle.tx_map.specs.declared.write.MapEntry.{MapEntry}
use Rattle.tx_map.specs.Live.{entry_key, value_in}
use Rattle.tx_map.specs.Order.{IsRisingFrom}
use Rattle.tx_map.proofs.Rising.{find-none, rising-from}
use Rattle.map_run.specs.Rows.{row_of}
use Rattle.map_run.proofs.Keys.{value_at}

-- a row's key
abbrev pub row_key : ℕ × ℕ → ℕ
row_key w = w.0

-- the key's value in a table
abbrev pub row_at : ℕ → List (ℕ × ℕ) → Option ℕ
row_at k [] = None
row_at k (w ∷ ws) = if w.0 == k then Some w.1 else row_at k ws

-- nothing has a key below all
row-none : (k n : ℕ) (ws : List (ℕ × ℕ)) → k < n → IsRisingFrom row_key n ws → row_at k ws ≡ None
row-none k n [] lt h = refl
row-none k n (w ∷ ws) lt h = rw (ne_eqb w.0 k (λ e. omega (arith, h.0))) (row-none k (suc w.0) ws (omega (arith, h.0)) h.1)

value-none : (k n : ℕ) (xs : List MapEntry) → k < n → IsRisingFrom entry_key n xs → value_at k xs ≡ None
value-none k n xs lt h = ap value_in (find-none entry_key k n xs lt h)

-- a value put at a key
pub row-with : (k j v n : ℕ) (ws : List (ℕ × ℕ)) → IsRisingFrom row_key n ws → row_at k (with_value j v ws) ≡ cond (j == k) (Some v) (row_at k ws)
row-with k j v n [] h = refl
row-with k j v n (w ∷ ws) h = by (nat_lt w.0 j) (w.0 == j) refl refl (row-with k j v (suc w.0) ws h.1)
  where
    by : (l e : Bool) → nat_lt w.0 j ≡ l → (w.0 == j) ≡ e → row_at k (with_value j v ws) ≡ cond (j == k) (Some v) (row_at k ws)
        → row_at k (cond l (w ∷ with_value j v ws) (cond e ((j, v) ∷ ws) ((j, v) ∷ w ∷ ws))) ≡ cond (j == k) (Some v) (row_at k (w ∷ ws))
    by true e a s r = step (w.0 == k) (j == k) refl refl
      where
        step : (b c : Bool) → (w.0 == k) ≡ b → (j == k) ≡ c → cond b (Some w.1) (row_at k (with_value j v ws)) ≡ cond c (Some v) (cond b (Some w.1) (row_at k ws))
        step true true p q = absurd (let less : w.0 < j = grind (arith, nat_tests) in let one : w.0 ≡ k = grind (arith, nat_tests) in let two : j ≡ k = grind (arith, nat_tests) in omega arith)
        step true false p q = refl
        step false c p q = r ∙ ap (λ b. cond b (Some v) (row_at k ws)) q
    by false true a s r = step (w.0 == k) (j == k) refl refl
      where
        step : (b c : Bool) → (w.0 == k) ≡ b → (j == k) ≡ c → cond c (Some v) (row_at k ws) ≡ cond c (Some v) (cond b (Some w.1) (row_at k ws))
        step true true p q = refl
        step false c p q = refl
        step true false p q = absurd (let one : w.0 ≡ k = grind (arith, nat_tests) in let two : w.0 ≡ j = grind (arith, nat_tests) in let three : j ≡ k = omega arith in grind (arith, nat_tests))
    by false false a s r = refl

pub rising-with_value : (j v n : ℕ) (ws : List (ℕ × ℕ)) → n ≤ j → IsRisingFrom row_key n ws → IsRisingFrom row_key n (with_value j v ws)
rising-with_value j v n [] le h = (le, tt)
rising-with_value j v n (w ∷ ws) le h = by (nat_lt w.0 j) (w.0 == j) refl refl (λ lt. rising-with_value j v (suc w.0) ws lt h.1)
  where
    by : (l e : Bool) → nat_lt w.0 j ≡ l → (w.0 == j) ≡ e → (suc w.0 ≤ j → IsRisingFrom row_key (suc w.0) (with_value j v ws)) → IsRisingFrom row_key n (cond l (w ∷ with_value j v ws) (cond e ((j, v) ∷ ws) ((j, v) ∷ w ∷ ws)))
    by true e a s r = (h.0, r (let less : w.0 < j = grind (arith, nat_tests) in omega arith))
    by false true a s r = (le, let same : w.0 ≡ j = grind (arith, nat_tests) in rising-from row_key (suc j) (suc w.0) ws (omega arith) h.1)
    by false false a s r = (le, (let more : j ≤ w.0 = grind (arith, nat_tests) in let other : suc j ≤ w.0 = grind (arith, nat_tests) in other, h.1))

-- the first entry and the first row are those of their keys
value-first : (x : MapEntry) (xs : List MapEntry) → value_at x.key (x ∷ xs) ≡ Some x.value
value-first x xs = rw (eq-eqb x.key x.key refl) refl

row-first : (w : ℕ × ℕ) (ws : List (ℕ × ℕ)) → row_at w.0 (w ∷ ws) ≡ Some w.1
row-first w ws = rw (eq-eqb w.0 w.0 refl) refl

-- and none has another
value-rest : (k : ℕ) (x : MapEntry) (xs : List MapEntry) → (x.key == k) ≡ false → value_at k (x ∷ xs) ≡ value_at k xs
value-rest k x xs e = rw e refl

row-rest : (k : ℕ) (w : ℕ × ℕ) (ws : List (ℕ × ℕ)) → (w.0 == k) ≡ false → row_at k (w ∷ ws) ≡ row_at k ws
row-rest k w ws e = rw e refl

-- the same rows
pub rows_same : (n : ℕ) (xs : List MapEntry) (ws : List (ℕ × ℕ)) → IsRisingFrom entry_key n xs → IsRisingFrom row_key n ws → ((k : ℕ) → value_at k xs ≡ row_at k ws) → map row_of xs ≡ ws
rows_same n [] [] h g same = refl
rows_same n [] (w ∷ ws) h g same = absurd (let e : None ≡ Some w.1 = same w.0 ∙ row-first w ws in cc)
rows_same n (x ∷ xs) [] h g same = absurd (let e : Some x.value ≡ None = sym (value-first x xs) ∙ same x.key in cc)
rows_same n (x ∷ xs) (w ∷ ws) h g same = by (nat_lt x.key w.0) (nat_lt w.0 x.key) refl refl (λ r f. rows_same (suc x.key) xs ws h.1 r f)
  where
    by : (l m : Bool) → nat_lt x.key w.0 ≡ l → nat_lt w.0 x.key ≡ m → (IsRisingFrom row_key (suc x.key) ws → ((k : ℕ) → value_at k xs ≡ row_at k ws) → map row_of xs ≡ ws) → map row_of (x ∷ xs) ≡ w ∷ ws
    by true m a b more = absurd (
        let less : x.key < w.0 = grind (arith, nat_tests) in
        let e : Some x.value ≡ None = sym (value-first x xs) ∙ same x.key ∙ row-none x.key w.0 (w ∷ ws) less (omega arith, g.1) in cc)
    by false true a b more = absurd (
        let less : w.0 < x.key = grind (arith, nat_tests) in
        let e : None ≡ Some w.1 = sym (value-none w.0 x.key (x ∷ xs) less (omega arith, h.1)) ∙ same w.0 ∙ row-first w ws in cc)
    by false false a b more =
        let one : w.0 ≤ x.key = grind (arith, nat_tests) in
        let two : x.key ≤ w.0 = grind (arith, nat_tests) in
        let key : x.key ≡ w.0 = omega arith in
        let value : x.value ≡ w.1 = some (sym (value-first x xs) ∙ same x.key ∙ ap (λ k. row_at k (w ∷ ws)) key ∙ row-first w ws) in
        ap (λ k. (k, x.value) ∷ map row_of xs) key ∙ ap (λ v. (w.0, v) ∷ map row_of xs) value
        ∙ ap (λ r. w ∷ r) (more (let P : ℕ → Type 0 = λ k. IsRisingFrom row_key (suc k) ws in subst P (sym key) g.1) (λ k. rest k key (x.key == k) refl))
      where
        some : {a b : ℕ} → Some a ≡ Some b → a ≡ b
        some e = cc

        rest : (k : ℕ) → x.key ≡ w.0 → (b : Bool) → (x.key == k) ≡ b → value_at k xs ≡ row_at k ws
        rest k key true e =
            let here : x.key ≡ k = grind (arith, nat_tests) in
            value-none k (suc x.key) xs (omega arith) h.1 ∙ sym (row-none k (suc w.0) ws (omega arith) g.1)
        rest k key false e = sym (value-rest k x xs e) ∙ same k ∙ row-rest k w ws (ap (λ j. j == k) (sym key) ∙ e)
