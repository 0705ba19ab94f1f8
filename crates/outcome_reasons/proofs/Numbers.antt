-- The number of an entry at a place.
use Rattle.std.proofs.Common.{◌≡◌, ℕ, zero, suc, ◌+◌, ◌<◌, ◌≤◌, ◌==◌, true, false, List, [], ◌∷◌, Some, None, get_or, length, slice_get, refl, ap, sym, ◌∙◌, arith}
use Rattle.std.proofs.lemmas.Bool.Decides.{nat_tests}
use Rattle.dtx_model.specs.Words.{onto, past_of}
use Rattle.outcome_reasons.specs.Moments.{number_at}

-- a number stays where entries come after it
stays : (i : ℕ) (ns xs : List ℕ) → i < length ns → number_at i (onto ns xs) ≡ number_at i ns
stays i ns [] k = refl
stays i ns (x ∷ xs) k =
    let differ : (i == length ns) ≡ false = grind (arith, nat_tests) in
    stays i (x ∷ ns) xs (omega (arith, k)) ∙ rw differ refl

-- the number of the entry in front
first : (i : ℕ) (n : ℕ) (ns : List ℕ) → i ≡ length ns → number_at i (n ∷ ns) ≡ n
first i n ns k =
    let same : (i == length ns) ≡ true = grind (arith, nat_tests) in
    rw same refl

at-onto : (i k : ℕ) (ns xs : List ℕ) (n : ℕ) → i ≡ length ns + k → slice_get xs k ≡ Some n → number_at i (onto ns xs) ≡ n
at-onto i k ns [] n e is = absurd cc
at-onto i zero ns (x ∷ xs) n e is = stays i (x ∷ ns) xs (omega (arith, e)) ∙ first i x ns (omega (arith, e)) ∙ the_same is
  where
    the_same : Some x ≡ Some n → x ≡ n
    the_same q = cc
at-onto i (suc k) ns (x ∷ xs) n e is = at-onto i k (x ∷ ns) xs n (omega (arith, e)) is

beyond : (i : ℕ) (ns : List ℕ) → length ns ≤ i → number_at i ns ≡ 0
beyond i [] k = refl
beyond i (n ∷ ns) k =
    let differ : (i == length ns) ≡ false = grind (arith, nat_tests) in
    rw differ (beyond i ns (omega (arith, k)))

none-onto : (i k : ℕ) (ns xs : List ℕ) → i ≡ length ns + k → slice_get xs k ≡ None → number_at i (onto ns xs) ≡ 0
none-onto i k ns [] e is = beyond i ns (omega (arith, e))
none-onto i zero ns (x ∷ xs) e is = absurd cc
none-onto i (suc k) ns (x ∷ xs) e is = none-onto i k (x ∷ ns) xs (omega (arith, e)) is

slice_get-at : (xs : List ℕ) (i n : ℕ) → i < length xs → ((d : ℕ) → n ≡ get_or xs i d) → slice_get xs i ≡ Some n
slice_get-at [] i n k is = absurd (omega (arith, k))
slice_get-at (x ∷ xs) zero n k is = ap Some (sym (is 0))
slice_get-at (x ∷ xs) (suc i) n k is = slice_get-at xs i n (omega (arith, k)) is

slice_get-beyond : (xs : List ℕ) (i : ℕ) → length xs ≤ i → slice_get xs i ≡ None
slice_get-beyond [] i k = refl
slice_get-beyond (x ∷ xs) zero k = absurd (omega (arith, k))
slice_get-beyond (x ∷ xs) (suc i) k = slice_get-beyond xs i (omega (arith, k))

pub number-some : (i : ℕ) (xs : List ℕ) (n : ℕ) → i < length xs → ((d : ℕ) → n ≡ get_or xs i d) → number_at i (past_of xs) ≡ n
number-some i xs n k is = at-onto i i [] xs n (omega arith) (slice_get-at xs i n k is)

pub number-none : (i : ℕ) (xs : List ℕ) → length xs ≤ i → number_at i (past_of xs) ≡ 0
number-none i xs k = none-onto i i [] xs (omega arith) (slice_get-beyond xs i k)
