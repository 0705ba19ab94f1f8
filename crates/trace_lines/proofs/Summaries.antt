-- What stands in each history of a trace, an entry at a time.
use Rattle.std.proofs.Common.{◌≡◌, refl, ℕ, ◌+◌, ◌<◌, ◌==◌, Bool, false, cond, List, [], ◌∷◌, ◌++◌, length, take, get_or, set, ap, arith, sym, ◌∙◌, length-set, inl, inr, replicate, eq-eqb, add-one}
use Rattle.std.specs.Prelude.{count_by, map}
use Rattle.std.specs.List.{fold}
use Rattle.std.proofs.lemmas.Bool.{cases_eq}
use Rattle.std.proofs.lemmas.Bool.Decides.{nat_tests}
use Rattle.std.proofs.lemmas.List.{get_or-replicate, get_or-set_other, get_or-set_same, length-replicate, same_lists}
use Rattle.std.proofs.lemmas.List.FromFn.{get_or-map-range_with_len, length-map-range_with_len}
use Rattle.std.proofs.Math.Seq.{take-suc}
use Rattle.dtx_values.specs.declared.entry.Entry.{Entry}
use Rattle.dtx_values.specs.declared.number.TxNo.{TxNo}
use Rattle.dtx_values.specs.declared.trace.Place.{Place}
use Rattle.dtx_values.specs.declared.trace.Place.TheVariants.{Context, Transaction, Log}
use Rattle.dtx_model.specs.Traces.{Placed, history}
use Rattle.dtx_model.specs.Words.{past_of}
use Rattle.dtx_model.proofs.Histories.{history-other, history-same, past_of-snoc}
use Rattle.trace_lines.specs.Summary.{all_seen, count_line, how_many, seen_of, transactions}
use Rattle.trace_lines.specs.declared.tally.Seen.{Seen}

counted : (p : Seen → Bool) (f : ℕ → Seen) (ts : List ℕ) (n : ℕ) → fold (λ (a : ℕ) (s : Seen). a + cond (p s) 1 0) n (map f ts) ≡ fold (λ (a t : ℕ). a + cond (p (f t)) 1 0) n ts
counted p f [] n = refl
counted p f (t ∷ ts) n = counted p f ts (n + cond (p (f t)) 1 0)

-- a count over what stands in each history is the count over the transactions
pub how-many : (p : Seen → Bool) (T : List Placed) → count_by p (all_seen T) ≡ how_many (λ h. p (seen_of h)) T
unfolding all_seen
how-many p T = counted p (λ t. seen_of (history t (past_of T))) transactions 0

-- a line more at the end of a text
pub line : (word a b c : List ℕ) (n m : ℕ) → a ≡ c → b ≡ a ++ count_line word n → n ≡ m → b ≡ c ++ count_line word m
line word a b c n m front more number = more ∙ (λ i. front i ++ count_line word (number i))

-- there are 256 transactions
long : (f : ℕ → Seen) → length (map f transactions) ≡ 256
unfolding transactions
long f = length-map-range_with_len f 1 256

-- at place k is transaction k + 1
at : (f : ℕ → Seen) (k : ℕ) (d : Seen) → k < 256 → get_or (map f transactions) k d ≡ f (1 + k)
unfolding transactions
at f k d h = get_or-map-range_with_len f 1 256 k (1 + k) d h refl

-- what stands in the history of transaction t by these entries, newest first
abbrev of : List Placed → ℕ → Seen
of past t = seen_of (history t past)

-- an entry more in one history changes what stands in that
noted : (past : List Placed) (t : TxNo) (x : Entry) (i : ℕ) (s : Seen) → i + 1 ≡ t.value → i < 256 → s ≡ seen_of (x ∷ history t.value past)
    → set (map (of past) transactions) i s ≡ map (of ((Transaction t, x) ∷ past)) transactions
noted past t x i s number within e =
    let size : length (map (of past) transactions) ≡ 256 = long (of past) in
    same_lists (set (map (of past) transactions) i s) (map (of ((Transaction t, x) ∷ past)) transactions) (length-set (map (of past) transactions) i s ∙ size ∙ sym (long (of ((Transaction t, x) ∷ past))))
    (λ k d h.
    let low : k < 256 = omega (arith, length-set (map (of past) transactions) i s, size, h) in
    elim (cases_eq k i) [
      | inl same ↦
          let is : 1 + k ≡ t.value = omega arith in
          let there : i < length (map (of past) transactions) = omega arith in
          let put : get_or (set (map (of past) transactions) i s) k d ≡ s = rw same (get_or-set_same (map (of past) transactions) i s d there) in
          let now : history (1 + k) ((Transaction t, x) ∷ past) ≡ x ∷ history t.value past = history-same (1 + k) t past (x ∷ []) (eq-eqb (1 + k) t.value is) ∙ ap (λ (n : ℕ). x ∷ history n past) is in
          put ∙ e ∙ ap seen_of (sym now) ∙ sym (at (of ((Transaction t, x) ∷ past)) k d low)
      | inr other ↦
          let differ : (1 + k == t.value) ≡ false = grind (arith, nat_tests) in
          get_or-set_other (map (of past) transactions) i k s d other ∙ at (of past) k d low ∙ ap seen_of (sym (history-other (1 + k) t past (x ∷ []) differ)) ∙ sym (at (of ((Transaction t, x) ∷ past)) k d low)
    ])

-- one at another place changes nothing
unmoved : (past : List Placed) (p : Place) (x : Entry) → ((t : TxNo) → p ≡ Transaction t → ⊥) → map (of past) transactions ≡ map (of ((p, x) ∷ past)) transactions
unmoved past (Transaction t) x other = absurd (other t refl)
unmoved past (Context a) x other = refl
unmoved past Log x other = refl

-- a loop's step at an entry of a transaction
pub step-noted : (xs : List Placed) (k : ℕ) (t : TxNo) (x : Entry) (i : ℕ) (s : Seen) → k < length xs → (Transaction t, x) ≡ get_or xs k (Transaction t, x) → i + 1 ≡ t.value → i < 256
    → s ≡ seen_of (x ∷ history t.value (past_of (take k xs))) → set (all_seen (take k xs)) i s ≡ all_seen (take (k + 1) xs)
unfolding all_seen
step-noted xs k t x i s h e number within is =
    let longer : take (k + 1) xs ≡ take k xs ++ (Transaction t, x) ∷ [] = rw add-one (take-suc xs k (Transaction t, x) h ∙ ap (λ (z : Placed). take k xs ++ z ∷ []) (sym e)) in
    noted (past_of (take k xs)) t x i s number within is ∙ ap (λ (ys : List Placed). map (of ys) transactions) (sym (ap past_of longer ∙ past_of-snoc (take k xs) (Transaction t, x)))

-- and at an entry at another place
pub step-other : (xs : List Placed) (k : ℕ) (p : Place) (x : Entry) → k < length xs → (p, x) ≡ get_or xs k (p, x) → ((t : TxNo) → p ≡ Transaction t → ⊥) → all_seen (take k xs) ≡ all_seen (take (k + 1) xs)
unfolding all_seen
step-other xs k p x h e other =
    let longer : take (k + 1) xs ≡ take k xs ++ (p, x) ∷ [] = rw add-one (take-suc xs k (p, x) h ∙ ap (λ (z : Placed). take k xs ++ z ∷ []) (sym e)) in
    unmoved (past_of (take k xs)) p x other ∙ ap (λ (ys : List Placed). map (of ys) transactions) (sym (ap past_of longer ∙ past_of-snoc (take k xs) (p, x)))

-- nothing stands in the histories of no entries
pub none-seen : (s : Seen) → s ≡ seen_of [] → replicate 256 s ≡ all_seen []
unfolding all_seen
none-seen s e =
    same_lists (replicate 256 s) (map (of []) transactions) (length-replicate 256 s ∙ sym (long (of [])))
    (λ k d h.
    let low : k < 256 = omega (arith, length-replicate 256 s, h) in
    get_or-replicate 256 k s d low ∙ e ∙ sym (at (of []) k d low))

-- what stands in the history of the transaction at place i
pub seen-at : (xs : List Placed) (i : ℕ) (d : Seen) → i < 256 → get_or (all_seen xs) i d ≡ seen_of (history (1 + i) (past_of xs))
unfolding all_seen
seen-at xs i d h = at (of (past_of xs)) i d h
