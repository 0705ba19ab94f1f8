-- Writes that go into a base in order of key.
use Rattle.std.proofs.Common.{◌≡◌, ℕ, suc, ◌+◌, ◌<◌, ◌≤◌, nat_lt, Bool, true, false, cond, not, List, [], ◌∷◌, ◌++◌, drop, get_or, length, filter, zero, Option, Some, None, refl, sym, subst, ap, ◌∙◌, arith, append_assoc, length-append}
use Rattle.std.proofs.lemmas.Bool.{le-ltb, lt-ltb}
use Rattle.std.proofs.lemmas.Bool.Decides.{nat_tests}
use Rattle.std.proofs.lemmas.List.{drop_more}
use Rattle.std.proofs.lemmas.List.Filters.{length-filter_both}
use Rattle.tx_map.specs.declared.write.LiveWrite.{LiveWrite}
use Rattle.tx_map.specs.declared.write.MapEntry.{MapEntry}
use Rattle.tx_map.specs.Live.{Pair, entry_key, is_of, others, own, write_key}
use Rattle.tx_map.specs.Notes.{base_with, entry_at, entry_of, moved}
use Rattle.tx_map.specs.Order.{IsRising, IsRisingFrom, above, below}
use Rattle.tx_map.proofs.Rising.{rising-from}

-- each key is below n
abbrev pub AllBelow : ℕ → List MapEntry → Type 0
AllBelow n [] = Unit {0}
AllBelow n (x ∷ xs) = (x.key < n) × AllBelow n xs

-- an entry below all writes stays in front
moved-cons : (x : MapEntry) (n : ℕ) (ws : List LiveWrite) (b : List MapEntry) → x.key < n → IsRisingFrom write_key n ws → moved ws (x ∷ b) ≡ x ∷ moved ws b
moved-cons x n [] b lt h = refl
moved-cons x n (w ∷ ws) b lt h =
    rw (lt-ltb x.key w.key (omega (arith, h.0)), le-ltb w.key x.key (omega (arith, h.0)))
    (moved-cons x (suc w.key) ws (base_with w b) (omega (arith, h.0)) h.1)

-- and so do several
moved-append : (xs : List MapEntry) (n : ℕ) (ws : List LiveWrite) (b : List MapEntry) → AllBelow n xs → IsRisingFrom write_key n ws → moved ws (xs ++ b) ≡ xs ++ moved ws b
moved-append [] n ws b lt h = refl
moved-append (x ∷ xs) n ws b lt h = moved-cons x n ws (xs ++ b) lt.0 h ∙ ap (λ ys. x ∷ ys) (moved-append xs n ws b lt.1 h)

below-AllBelow : (k n : ℕ) (b : List MapEntry) → k ≤ n → AllBelow n (below entry_key k b)
below-AllBelow k n [] le = tt
below-AllBelow k n (x ∷ b) le = by (nat_lt x.key k) refl (below-AllBelow k n b le)
  where
    by : (t : Bool) → nat_lt x.key k ≡ t → AllBelow n (below entry_key k b) → AllBelow n (cond t (x ∷ below entry_key k b) (below entry_key k b))
    by true e h = (grind (arith, nat_tests), h)
    by false e h = h

entry_at-AllBelow : (k : ℕ) (v : Option ℕ) → AllBelow (suc k) (entry_at k v)
entry_at-AllBelow k (Some v) = (omega arith, tt)
entry_at-AllBelow k None = tt

-- the first of the writes: what is below its key and its own entry stay in front of what the rest make of what is above
pub moved-first : (w : LiveWrite) (ws : List LiveWrite) (b : List MapEntry) → IsRisingFrom write_key (suc w.key) ws → moved (w ∷ ws) b ≡ below entry_key w.key b ++ (entry_of w ++ moved ws (above entry_key w.key b))
moved-first w ws b h =
    moved-append (below entry_key w.key b) (suc w.key) ws _ (below-AllBelow w.key (suc w.key) b (omega arith)) h
    ∙ ap (λ ys. below entry_key w.key b ++ ys) (moved-append (entry_of w) (suc w.key) ws _ (entry_at-AllBelow w.key w.value) h)

-- the keys of a part still rise
pub rising-filter : {A : Type 0} (key : A → ℕ) (q : A → Bool) (n : ℕ) (xs : List A) → IsRisingFrom key n xs → IsRisingFrom key n (filter q xs)
rising-filter key q n [] h = tt
rising-filter key q n (x ∷ xs) h = by (q x) (rising-filter key q (suc (key x)) xs h.1)
  where
    by : (t : Bool) → IsRisingFrom key (suc (key x)) (filter q xs) → IsRisingFrom key n (cond t (x ∷ filter q xs) (filter q xs))
    by true r = (h.0, r)
    by false r = rising-from key n (suc (key x)) (filter q xs) (omega (arith, h.0)) r

-- and above a key they rise from beyond it
rising-above : {A : Type 0} (key : A → ℕ) (k n : ℕ) (xs : List A) → IsRisingFrom key n xs → IsRisingFrom key (suc k) (above key k xs)
rising-above key k n [] h = tt
rising-above key k n (x ∷ xs) h = by (nat_lt k (key x)) refl (rising-above key k (suc (key x)) xs h.1)
  where
    by : (t : Bool) → nat_lt k (key x) ≡ t → IsRisingFrom key (suc k) (above key k xs) → IsRisingFrom key (suc k) (cond t (x ∷ above key k xs) (above key k xs))
    by true e r = (grind (arith, nat_tests), rising-filter key _ (suc (key x)) xs h.1)
    by false e r = r

-- what is below a key goes before what rises from it on
rising-below : {A : Type 0} (key : A → ℕ) (k n : ℕ) (xs ys : List A) → IsRisingFrom key n xs → n ≤ k → IsRisingFrom key k ys → IsRisingFrom key n (below key k xs ++ ys)
rising-below key k n [] ys h le r = rising-from key n k ys le r
rising-below key k n (x ∷ xs) ys h le r =
    by (nat_lt (key x) k) refl (λ lt. rising-below key k (suc (key x)) xs ys h.1 lt r) (rising-below key k n xs ys (rising-from key n (suc (key x)) xs (omega (arith, h.0)) h.1) le r)
  where
    by : (t : Bool) → nat_lt (key x) k ≡ t → (key x < k → IsRisingFrom key (suc (key x)) (below key k xs ++ ys)) → IsRisingFrom key n (below key k xs ++ ys) → IsRisingFrom key n (cond t (x ∷ below key k xs) (below key k xs) ++ ys)
    by true e g f = (h.0, g (grind (arith, nat_tests)))
    by false e g f = f

-- the items below a key, an item of the key, and those above it
pub rising-with : {A : Type 0} (key : A → ℕ) (y : A) (xs : List A) → IsRising key xs → IsRising key (below key (key y) xs ++ y ∷ above key (key y) xs)
rising-with key y xs h = rising-below key (key y) 0 xs _ h (omega arith) (omega arith, rising-above key (key y) 0 xs h)

rising-entry : (k : ℕ) (v : Option ℕ) (b : List MapEntry) → IsRising entry_key b → IsRisingFrom entry_key k (entry_at k v ++ above entry_key k b)
rising-entry k (Some v) b h = (omega arith, rising-above entry_key k 0 b h)
rising-entry k None b h = rising-from entry_key k (suc k) _ (omega arith) (rising-above entry_key k 0 b h)

-- a base stays in order
pub rising-moved : (ws : List LiveWrite) (b : List MapEntry) → IsRising entry_key b → IsRising entry_key (moved ws b)
rising-moved [] b h = h
rising-moved (w ∷ ws) b h = rising-moved ws _ (rising-below entry_key w.key 0 b _ h (omega arith) (rising-entry w.key w.value b h))

-- what is below a key and what is above it are no more than all
pub length-parts : (k : ℕ) (b : List MapEntry) → length (below entry_key k b) + length (above entry_key k b) ≤ length b
length-parts k [] = omega arith
length-parts k (x ∷ b) = by (nat_lt x.key k) (nat_lt k x.key) refl refl (length-parts k b)
  where
    by : (s t : Bool) → nat_lt x.key k ≡ s → nat_lt k x.key ≡ t → length (below entry_key k b) + length (above entry_key k b) ≤ length b → length (cond s (x ∷ below entry_key k b) (below entry_key k b)) + length (cond t (x ∷ above entry_key k b) (above entry_key k b)) ≤ length (x ∷ b)
    by true true d e h = absurd (let lt : x.key < k = grind (arith, nat_tests) in grind (arith, nat_tests))
    by true false d e h = omega arith
    by false true d e h = omega arith
    by false false d e h = omega arith

pub length-entry : (k : ℕ) (v : Option ℕ) → length (entry_at k v) ≤ 1
length-entry k (Some v) = omega arith
length-entry k None = omega arith

-- each write adds an entry at most
pub length-moved : (ws : List LiveWrite) (b : List MapEntry) → length (moved ws b) ≤ length b + length ws
length-moved [] b = omega arith
length-moved (w ∷ ws) b =
    let rest = length-moved ws (base_with w b) in
    let parts = length-parts w.key b in
    let entry = length-entry w.key w.value in
    let sum : length (base_with w b) ≡ length (below entry_key w.key b) + (length (entry_of w) + length (above entry_key w.key b)) = length-append _ _ ∙ ap (λ n. length (below entry_key w.key b) + n) (length-append (entry_of w) _) in
    omega (arith, rest, parts, entry, sum)

-- the writes after one have greater keys
rising-drop : (n : ℕ) (ws : List LiveWrite) (i : ℕ) (d : LiveWrite) → i < length ws → IsRisingFrom write_key n ws → IsRisingFrom write_key (suc (write_key (get_or ws i d))) (drop (i + 1) ws)
rising-drop n [] i d lt h = absurd (omega arith)
rising-drop n (w ∷ ws) zero d lt h = h.1
rising-drop n (w ∷ ws) (suc i) d lt h = let next : suc i + 1 ≡ suc (i + 1) = omega arith in rw next (rising-drop (suc w.key) ws i d (omega arith) h.1)

own-mine : (p : Pair) (w : LiveWrite) (ws : List LiveWrite) → is_of p w ≡ true → own p (w ∷ ws) ≡ w ∷ own p ws
own-mine p w ws e = rw e refl

own-other : (p : Pair) (w : LiveWrite) (ws : List LiveWrite) → is_of p w ≡ false → own p (w ∷ ws) ≡ own p ws
own-other p w ws e = rw e refl

module _ (p : Pair) (ws : List LiveWrite) (i : ℕ) (w : LiveWrite) (lt : i < length ws) (is : w ≡ get_or ws i w) where
  here : drop i ws ≡ w ∷ drop (i + 1) ws
  here = drop_more ws i w lt ∙ ap (λ x. x ∷ drop (i + 1) ws) (sym is)

  -- a write of another pair is passed
  pub moved-skip : (b : List MapEntry) → is_of p w ≡ false → moved (own p (drop (i + 1) ws)) b ≡ moved (own p (drop i ws)) b
  moved-skip b other = sym (ap (λ xs. moved (own p xs) b) here ∙ ap (λ xs. moved xs b) (own-other p w _ other))

  -- the pair's write: what is below its key and its own entry come out
  pub moved-step : (b lo hi out out1 out2 : List MapEntry) → is_of p w ≡ true → IsRising write_key ws → lo ≡ below entry_key w.key b → hi ≡ above entry_key w.key b → out1 ≡ out ++ lo → out2 ≡ out1 ++ entry_of w → out2 ++ moved (own p (drop (i + 1) ws)) hi ≡ out ++ moved (own p (drop i ws)) b
  moved-step b lo hi out out1 out2 mine h is_lo is_hi is_out1 is_out2 =
      let later : IsRisingFrom write_key (suc w.key) (drop (i + 1) ws) = let P : LiveWrite → Type 0 = λ x. IsRisingFrom write_key (suc (write_key x)) (drop (i + 1) ws) in subst P (sym is) (rising-drop 0 ws i w lt h) in
      let first : moved (own p (drop i ws)) b ≡ below entry_key w.key b ++ (entry_of w ++ moved (own p (drop (i + 1) ws)) (above entry_key w.key b)) = ap (λ xs. moved (own p xs) b) here ∙ ap (λ xs. moved xs b) (own-mine p w _ mine) ∙ moved-first w (own p (drop (i + 1) ws)) b (rising-filter write_key (is_of p) (suc w.key) _ later) in
      rw (is_out2, is_out1, is_lo, is_hi, first) (simp append_assoc)

-- a pair's writes and the others' are all
pub length-own-others : (p : Pair) (ws : List LiveWrite) → length (own p ws) + length (others p ws) ≡ length ws
length-own-others p ws = length-filter_both (is_of p) (λ w. not (is_of p w)) (λ w. refl) ws
