-- Lists in order of key: what is below a key and above it, and what a search finds.
use Rattle.std.proofs.Common.{◌≡◌, ℕ, zero, suc, ◌+◌, ◌<◌, ◌≤◌, ◌==◌, true, List, [], ◌∷◌, length, get_or, find, None, Result, Ok, Err, IfOk, IfErr, refl, sym, ap, arith}
use Rattle.std.specs.List.Sorted.{IsSearchInRange, IsBinarySearchResult, IsNonDecreasingBy}
use Rattle.std.specs.Ordering.{nat_cmp, ordering_index}
use Rattle.std.proofs.lemmas.Cmp.{ranked}
use Rattle.std.proofs.lemmas.Bool.{le-ltb, lt-ltb, ne_eqb}
use Rattle.std.proofs.lemmas.Bool.Decides.{nat_tests}
use Rattle.tx_map.specs.Order.{IsAt, IsGapFor, IsRising, IsRisingFrom, above, below}

module _ {A : Type 0} (key : A → ℕ) where
  -- from n on is also from less on
  pub rising-from : (m n : ℕ) (xs : List A) → m ≤ n → IsRisingFrom key n xs → IsRisingFrom key m xs
  rising-from m n [] le h = tt
  rising-from m n (x ∷ xs) le h = (let l : m ≤ key x = omega (arith, h.0) in l, h.1)

  -- the key at each place is from n on
  pub rising-at : (n : ℕ) (xs : List A) → IsRisingFrom key n xs → (i : ℕ) (d : A) → i < length xs → n ≤ key (get_or xs i d)
  rising-at n [] h i d lt = absurd (omega arith)
  rising-at n (x ∷ xs) h zero d lt = h.0
  rising-at n (x ∷ xs) h (suc i) d lt = let r = rising-at (suc (key x)) xs h.1 i d (omega arith) in omega (arith, r, h.0)

  -- keys at later places are greater, or the same place's
  pub rising-order : (n : ℕ) (xs : List A) → IsRisingFrom key n xs → (i j : ℕ) (d : A) → i ≤ j → j < length xs → key (get_or xs i d) ≤ key (get_or xs j d)
  rising-order n [] h i j d le lt = absurd (omega arith)
  rising-order n (x ∷ xs) h zero zero d le lt = omega arith
  rising-order n (x ∷ xs) h zero (suc j) d le lt = let r = rising-at (suc (key x)) xs h.1 j d (omega arith) in omega (arith, r)
  rising-order n (x ∷ xs) h (suc i) zero d le lt = absurd (omega arith)
  rising-order n (x ∷ xs) h (suc i) (suc j) d le lt = rising-order (suc (key x)) xs h.1 i j d (omega arith) (omega arith)

  -- nothing is below where the keys rise from k on
  pub below-none : (k n : ℕ) (xs : List A) → k ≤ n → IsRisingFrom key n xs → below key k xs ≡ []
  below-none k n [] le h = refl
  below-none k n (x ∷ xs) le h = rw (le-ltb (key x) k (omega (arith, h.0))) (below-none k (suc (key x)) xs (omega (arith, h.0)) h.1)

  -- all is above where they rise from beyond it
  pub above-all : (k n : ℕ) (xs : List A) → k < n → IsRisingFrom key n xs → above key k xs ≡ xs
  above-all k n [] le h = refl
  above-all k n (x ∷ xs) le h = rw (lt-ltb k (key x) (omega (arith, h.0))) (ap (λ ys. x ∷ ys) (above-all k (suc (key x)) xs (omega (arith, h.0)) h.1))

  -- and nothing has the key
  pub find-none : (k n : ℕ) (xs : List A) → k < n → IsRisingFrom key n xs → find (λ x. key x == k) xs ≡ None
  find-none k n [] le h = refl
  find-none k n (x ∷ xs) le h = rw (ne_eqb (key x) k (λ e. omega (arith, h.0))) (find-none k (suc (key x)) xs (omega (arith, h.0)) h.1)

  -- the item at a place that has the key is the key's
  pub is_at : (k n : ℕ) (xs : List A) → IsRisingFrom key n xs → (i : ℕ) → i < length xs → ((d : A) → key (get_or xs i d) ≡ k) → IsAt key xs k i
  is_at k n [] h i lt here = absurd (omega arith)
  is_at k n (x ∷ xs) h zero lt here =
      let e : key x ≡ k = here x in
      let same : (key x == k) ≡ true = grind (arith, nat_tests) in
      record {
        in_range = lt;
        here = rw same refl;
        below_it = rw (le-ltb (key x) k (omega arith)) (below-none k (suc (key x)) xs (omega arith) h.1);
        above_it = rw (le-ltb k (key x) (omega arith)) (above-all k (suc (key x)) xs (omega arith) h.1);
      }
  is_at k n (x ∷ xs) h (suc i) lt here =
      let rest = is_at k (suc (key x)) xs h.1 i (omega arith) here in
      let less : key x < k = omega (arith, rising-at (suc (key x)) xs h.1 i x (omega arith), here x) in
      let next : suc i + 1 ≡ suc (i + 1) = omega arith in
      record {
        in_range = lt;
        here = rw (ne_eqb (key x) k (λ e. omega arith)) rest.here;
        below_it = rw (lt-ltb (key x) k less) (ap (λ ys. x ∷ ys) rest.below_it);
        above_it = rw (le-ltb k (key x) (omega arith), next) rest.above_it;
      }

  -- a place between what is less and what is greater is the key's gap
  pub is_gap : (k n : ℕ) (xs : List A) → IsRisingFrom key n xs → (i : ℕ) → i ≤ length xs → ((j : ℕ) (d : A) → j < i → key (get_or xs j d) < k) → ((j : ℕ) (d : A) → i ≤ j → j < length xs → k < key (get_or xs j d)) → IsGapFor key xs k i
  is_gap k n [] h zero le less more = record { in_range = le; absent = refl; below_it = refl; above_it = refl }
  is_gap k n [] h (suc i) le less more = absurd (omega arith)
  is_gap k n (x ∷ xs) h zero le less more =
      let lt : k < key x = more 0 x (omega arith) (omega arith) in
      record {
        in_range = le;
        absent = rw (ne_eqb (key x) k (λ e. omega arith)) (find-none k (suc (key x)) xs (omega arith) h.1);
        below_it = rw (le-ltb (key x) k (omega arith)) (below-none k (suc (key x)) xs (omega arith) h.1);
        above_it = rw (lt-ltb k (key x) lt) (ap (λ ys. x ∷ ys) (above-all k (suc (key x)) xs (omega arith) h.1));
      }
  is_gap k n (x ∷ xs) h (suc i) le less more =
      let lt : key x < k = less 0 x (omega arith) in
      let rest = is_gap k (suc (key x)) xs h.1 i (omega arith) (λ j d l. less (suc j) d (omega arith)) (λ j d l m. more (suc j) d (omega arith) (omega arith)) in
      record {
        in_range = le;
        absent = rw (ne_eqb (key x) k (λ e. omega arith)) rest.absent;
        below_it = rw (lt-ltb (key x) k lt) (ap (λ ys. x ∷ ys) rest.below_it);
        above_it = rw (le-ltb k (key x) (omega arith)) rest.above_it;
      }

  -- comparisons with a key rise along the list, as a binary search asks
  comparisons_rise : (k : ℕ) (xs : List A) → IsRising key xs → IsNonDecreasingBy (λ x. ordering_index (nat_cmp (key x) k)) xs
  comparisons_rise k xs h i j d le lt = let r = rising-order 0 xs h i j d le lt in grind (arith, nat_tests)

  -- a binary search by key ends at the key, or at its gap
  pub searched : (k : ℕ) (xs : List A) → IsRising key xs → (r : Result ℕ ℕ) → IsSearchInRange r (length xs) → IsBinarySearchResult (λ x. nat_cmp (key x) k) xs r → record { found : IfOk r (IsAt key xs k); absent : IfErr r (IsGapFor key xs k) }
  searched k xs h (Ok i) in_range equal = record { found = is_at k 0 xs h i in_range (λ d. ranked _ k _ (sym (equal d))); absent = tt }
  searched k xs h (Err i) in_range parted =
      let point = parted (comparisons_rise k xs h) in
      record {
        found = tt;
        absent = is_gap k 0 xs h i in_range (λ j d lt. ranked _ k _ (sym (point.0 j d (omega arith) lt))) (λ j d le lt. ranked _ k _ (sym (point.1 j d le lt)));
      }
