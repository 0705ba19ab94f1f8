-- The rows of a table: their keys rise, and a search by halving finds a key's row.
use Rattle.std.specs.List.Sorted.{IsBinarySearchResult, IsNonDecreasingBy, IsSearchInRange}
use Rattle.std.specs.Ordering.{nat_cmp, ordering_index}
use Rattle.std.proofs.Common.{◌≡◌, inl, inr, ℕ, zero, suc, ◌≤◌, ◌<◌, true, false, eqb, nat_lt, List, [], ◌∷◌, length, get_or, None, Result, Ok, Err, IfOk, IfErr, refl, sym, ap, arith}
use Rattle.std.proofs.lemmas.Bool.{cases_Bool}
use Rattle.std.proofs.lemmas.Bool.Decides.{nat_tests}
use Rattle.std.proofs.lemmas.Cmp.{ranked}
use Rattle.kv_resource.specs.Bytes.{KvRecord}
use Rattle.kv_resource.specs.Store.{get_in, table_of, table_onto, with_write, with_writes}
use Rattle.kv_resource.specs.Table.{IsGapAt, IsRising, IsRisingFrom, IsRowAt}

abbrev pub Rows : Type 0
Rows = List (ℕ × ℕ)

-- ---- keys that rise

-- from n on is also from less on
rises_from : (m n : ℕ) (t : Rows) → m ≤ n → IsRisingFrom n t → IsRisingFrom m t
rises_from m n [] le h = tt
rises_from m n (w ∷ t) le h = (omega (arith, h.0), h.1)

-- they rise with one more write
pub write_rises : (n k v : ℕ) (t : Rows) → n ≤ k → IsRisingFrom n t → IsRisingFrom n (with_write k v t)
write_rises n k v [] le h = (le, tt)
write_rises n k v (w ∷ t) le h = elim (cases_Bool (nat_lt w.0 k)) [
  | inl below ↦ let lt : suc w.0 ≤ k = grind (arith, nat_tests) in rw below (h.0, write_rises (suc w.0) k v t lt h.1)
  | inr above ↦ elim (cases_Bool (eqb w.0 k)) [
    | inl same ↦ let is : suc k ≤ suc w.0 = grind (arith, nat_tests) in rw (above, same) (le, rises_from (suc k) (suc w.0) t is h.1)
    | inr other ↦ let lt : suc k ≤ w.0 = grind (arith, nat_tests) in rw (above, other) (le, (lt, h.1))
  ]
]

writes_rise : (ws t : Rows) → IsRising t → IsRising (with_writes ws t)
writes_rise [] t h = h
writes_rise (w ∷ ws) t h = writes_rise ws (with_write w.0 w.1 t) (write_rises 0 w.0 w.1 t (omega arith) h)

onto_rises : (t : Rows) (rs : List KvRecord) → IsRising t → IsRising (table_onto t rs)
onto_rises t [] h = h
onto_rises t (r ∷ rs) h = elim (cases_Bool r.marked) [
  | inl marked ↦ rw marked (onto_rises (with_writes r.writes t) rs (writes_rise r.writes t h))
  | inr unmarked ↦ rw unmarked (onto_rises t rs h)
]

-- the keys of each table rise
pub table_rises : (rs : List KvRecord) → IsRising (table_of rs)
table_rises rs = onto_rises [] rs tt

-- the key at each place is from n on
rises_at : (n : ℕ) (t : Rows) → IsRisingFrom n t → (i : ℕ) (d : ℕ × ℕ) → i < length t → n ≤ (get_or t i d).0
rises_at n [] h i d lt = absurd (omega arith)
rises_at n (w ∷ t) h zero d lt = h.0
rises_at n (w ∷ t) h (suc i) d lt = let r = rises_at (suc w.0) t h.1 i d (omega arith) in omega (arith, r, h.0)

-- and those at later places are no less
rises_along : (n : ℕ) (t : Rows) → IsRisingFrom n t → (i j : ℕ) (d : ℕ × ℕ) → i ≤ j → j < length t → (get_or t i d).0 ≤ (get_or t j d).0
rises_along n [] h i j d le lt = absurd (omega arith)
rises_along n (w ∷ t) h zero zero d le lt = omega arith
rises_along n (w ∷ t) h zero (suc j) d le lt = let r = rises_at (suc w.0) t h.1 j d (omega arith) in omega (arith, r)
rises_along n (w ∷ t) h (suc i) zero d le lt = absurd (omega arith)
rises_along n (w ∷ t) h (suc i) (suc j) d le lt = rises_along (suc w.0) t h.1 i j d (omega arith) (omega arith)

-- ---- the row of a key

-- a row of the key is its row
pub row_at : (k n : ℕ) (t : Rows) (i : ℕ) → IsRisingFrom n t → i < length t → ((d : ℕ × ℕ) → (get_or t i d).0 ≡ k) → IsRowAt k t i
row_at k n [] i h lt is = absurd (omega arith)
row_at k n (w ∷ t) zero h lt is =
    let here : w.0 ≡ k = is w in
    let above : nat_lt w.0 k ≡ false = grind (arith, nat_tests) in
    let same : eqb w.0 k ≡ true = grind (arith, nat_tests) in
    let same_too : eqb k w.0 ≡ true = grind (arith, nat_tests) in
    record { inside = lt; found = λ d. rw same_too refl; put = λ v. rw (above, same) refl }
row_at k n (w ∷ t) (suc i) h lt is =
    let rest = row_at k (suc w.0) t i h.1 (omega arith) is in
    let less : w.0 < k = omega (arith, rises_at (suc w.0) t h.1 i w (omega arith), is w) in
    let below : nat_lt w.0 k ≡ true = grind (arith, nat_tests) in
    let other : eqb k w.0 ≡ false = grind (arith, nat_tests) in
    record { inside = lt; found = λ d. rw other (rest.found d); put = λ v. rw below (ap (λ (l : Rows). w ∷ l) (rest.put v)) }

-- no row of a key below the first is found
none_found : (k n : ℕ) (t : Rows) → k < n → IsRisingFrom n t → get_in k t ≡ None
none_found k n [] lt h = refl
none_found k n (w ∷ t) lt h = let other : eqb k w.0 ≡ false = grind (arith, nat_tests, h.0) in rw other (none_found k (suc w.0) t (omega (arith, h.0)) h.1)

-- between what is less and what is greater is the key's gap
pub gap_at : (k n : ℕ) (t : Rows) (i : ℕ) → IsRisingFrom n t → i ≤ length t → ((j : ℕ) (d : ℕ × ℕ) → j < i → (get_or t j d).0 < k) → ((j : ℕ) (d : ℕ × ℕ) → i ≤ j → j < length t → k < (get_or t j d).0) → IsGapAt k t i
gap_at k n [] zero h le less more = record { inside = le; absent = refl; put = λ v. refl }
gap_at k n [] (suc i) h le less more = absurd (omega arith)
gap_at k n (w ∷ t) zero h le less more =
    let lt : k < w.0 = more 0 w (omega arith) (omega arith) in
    let above : nat_lt w.0 k ≡ false = grind (arith, nat_tests) in
    let other : eqb w.0 k ≡ false = grind (arith, nat_tests) in
    record { inside = le; absent = none_found k w.0 (w ∷ t) lt (omega arith, h.1); put = λ v. rw (above, other) refl }
gap_at k n (w ∷ t) (suc i) h le less more =
    let lt : w.0 < k = less 0 w (omega arith) in
    let below : nat_lt w.0 k ≡ true = grind (arith, nat_tests) in
    let other : eqb k w.0 ≡ false = grind (arith, nat_tests) in
    let rest = gap_at k (suc w.0) t i h.1 (omega arith) (λ j d l. less (suc j) d (omega arith)) (λ j d l m. more (suc j) d (omega arith) (omega arith)) in
    record { inside = le; absent = rw other rest.absent; put = λ v. rw below (ap (λ (l : Rows). w ∷ l) (rest.put v)) }

-- comparisons with a key rise along the rows, as a binary search asks
comparisons_rise : (k : ℕ) (t : Rows) → IsRising t → IsNonDecreasingBy (λ w. ordering_index (nat_cmp w.0 k)) t
comparisons_rise k t h i j d le lt = let r = rises_along 0 t h i j d le lt in grind (arith, nat_tests)

-- a search by halving ends at the key's row, or at its gap
pub searched : (k : ℕ) (t : Rows) → IsRising t → (r : Result ℕ ℕ) → IsSearchInRange r (length t) → IsBinarySearchResult (λ w. nat_cmp w.0 k) t r → record { found : IfOk r (IsRowAt k t); absent : IfErr r (IsGapAt k t) }
searched k t h (Ok i) inside equal = record { found = row_at k 0 t i h inside (λ d. ranked _ k _ (sym (equal d))); absent = tt }
searched k t h (Err i) inside parted =
    let point = parted (comparisons_rise k t h) in
    record { found = tt; absent = gap_at k 0 t i h inside (λ j d lt. ranked _ k _ (sym (point.0 j d (omega arith) lt))) (λ j d le lt. ranked _ k _ (sym (point.1 j d le lt))) }
