-- The histories of a trace, an entry at a time.
use Rattle.std.proofs.Common.{◌≡◌, refl, ℕ, ◌+◌, ◌<◌, ◌==◌, true, false, List, [], ◌∷◌, length, take, get_or, set, ap, arith, sym, ◌∙◌, length-set, inl, inr, replicate, eq-eqb}
use Rattle.std.specs.Prelude.{map}
use Rattle.std.specs.List.{range_with_len}
use Rattle.std.proofs.lemmas.Bool.{cases_eq}
use Rattle.std.proofs.lemmas.Bool.Decides.{nat_tests}
use Rattle.std.proofs.lemmas.List.{get_or-replicate, get_or-set_other, get_or-set_same, length-replicate, same_lists}
use Rattle.std.proofs.lemmas.List.FromFn.{get_or-map-range_with_len, length-map-range_with_len}
use Rattle.dtx_values.specs.declared.entry.Entry.{Entry}
use Rattle.dtx_values.specs.declared.number.TxNo.{TxNo}
use Rattle.dtx_values.specs.declared.trace.Place.{Place}
use Rattle.dtx_values.specs.declared.trace.Place.TheVariants.{Context, Transaction, Log}
use Rattle.dtx_model.specs.Traces.{Placed, history}
use Rattle.dtx_model.specs.Words.{past_of}
use Rattle.dtx_model.proofs.Prefixes.{past-more}
use Rattle.outcome_reasons.specs.Histories.{Numbered, all_histories, numbered}
use Rattle.outcome_reasons.specs.Moments.{numbers_of}

-- there are 256 transactions
long : (f : ℕ → Numbered) → length (map f (range_with_len 1 256)) ≡ 256
long f = length-map-range_with_len f 1 256

-- at place k is transaction k + 1
at : (f : ℕ → Numbered) (k : ℕ) (d : Numbered) → k < 256 → get_or (map f (range_with_len 1 256)) k d ≡ f (1 + k)
at f k d h = get_or-map-range_with_len f 1 256 k (1 + k) d h refl

-- an entry of transaction t comes to its history, with its number
own : (t : ℕ) (u : TxNo) (x : Entry) (past : List Placed) → (t == u.value) ≡ true → numbered ((Transaction u, x) ∷ past) t ≡ record { entries = x ∷ history t past; numbers = (length past + 1) ∷ numbers_of t past }
own t u x past same = rw same refl

-- and to no other
other : (t : ℕ) (u : TxNo) (x : Entry) (past : List Placed) → (t == u.value) ≡ false → numbered ((Transaction u, x) ∷ past) t ≡ numbered past t
other t u x past differ = rw differ refl

added : (past : List Placed) (t : TxNo) (x : Entry) (i : ℕ) (s : Numbered) → i + 1 ≡ t.value → i < 256 → s ≡ record { entries = x ∷ history t.value past; numbers = (length past + 1) ∷ numbers_of t.value past }
    → set (map (numbered past) (range_with_len 1 256)) i s ≡ map (numbered ((Transaction t, x) ∷ past)) (range_with_len 1 256)
added past t x i s number within e =
    let all : List Numbered = map (numbered past) (range_with_len 1 256) in
    let now : List Numbered = map (numbered ((Transaction t, x) ∷ past)) (range_with_len 1 256) in
    let size : length all ≡ 256 = long (numbered past) in
    same_lists (set all i s) now (length-set all i s ∙ size ∙ sym (long (numbered ((Transaction t, x) ∷ past))))
    (λ k d h.
    let low : k < 256 = omega (arith, length-set all i s, size, h) in
    elim (cases_eq k i) [
      | inl same ↦
          let is : 1 + k ≡ t.value = omega arith in
          let there : i < length all = omega arith in
          let put : get_or (set all i s) k d ≡ s = rw same (get_or-set_same all i s d there) in
          put ∙ e ∙ ap (λ (n : ℕ). record { entries = x ∷ history n past; numbers = (length past + 1) ∷ numbers_of n past }) (sym is)
          ∙ sym (own (1 + k) t x past (eq-eqb (1 + k) t.value is)) ∙ sym (at (numbered ((Transaction t, x) ∷ past)) k d low)
      | inr apart ↦
          let differ : (1 + k == t.value) ≡ false = grind (arith, nat_tests) in
          get_or-set_other all i k s d apart ∙ at (numbered past) k d low ∙ sym (other (1 + k) t x past differ) ∙ sym (at (numbered ((Transaction t, x) ∷ past)) k d low)
    ])

-- one at another place changes nothing
unmoved : (past : List Placed) (p : Place) (x : Entry) → ((t : TxNo) → p ≡ Transaction t → ⊥) → map (numbered past) (range_with_len 1 256) ≡ map (numbered ((p, x) ∷ past)) (range_with_len 1 256)
unmoved past (Transaction t) x apart = absurd (apart t refl)
unmoved past (Context a) x apart = refl
unmoved past Log x apart = refl

-- the entry at place k is the newest of the first k + 1
pub longer : (xs : List Placed) (k : ℕ) (z : Placed) → k < length xs → z ≡ get_or xs k z → past_of (take (k + 1) xs) ≡ z ∷ past_of (take k xs)
longer xs k z h e = past-more xs k z h ∙ ap (λ (y : Placed). y ∷ past_of (take k xs)) (sym e)

-- an entry of a transaction comes to its history
pub add-own : (past : List Placed) (z : Placed) (t : TxNo) (xs : List Numbered) (i n : ℕ) (old s : Numbered) → z.0 ≡ Transaction t → i + 1 ≡ t.value → i < 256 → xs ≡ all_histories past → get_or xs i old ≡ old
    → s ≡ record { entries = z.1 ∷ old.entries; numbers = n ∷ old.numbers } → n ≡ length past + 1 → set xs i s ≡ all_histories (z ∷ past)
unfolding all_histories
add-own past z t xs i n old s is number within all here e counted =
    let there : old ≡ numbered past t.value = sym here ∙ ap (λ l. get_or l i old) all ∙ at (numbered past) i old within ∙ ap (numbered past) (omega (arith, number)) in
    ap (λ l. set l i s) all
    ∙ added past t z.1 i s number within (e ∙ (λ j. record { entries = z.1 ∷ (there j).entries; numbers = counted j ∷ (there j).numbers }))
    ∙ ap (λ (p : Place). map (numbered ((p, z.1) ∷ past)) (range_with_len 1 256)) (sym is)

-- and one at another place changes nothing
pub add-none : (past : List Placed) (z : Placed) (xs : List Numbered) → ((t : TxNo) → z.0 ≡ Transaction t → ⊥) → xs ≡ all_histories past → xs ≡ all_histories (z ∷ past)
unfolding all_histories
add-none past z xs apart all = all ∙ unmoved past z.0 z.1 apart

-- the histories of no entries
pub none-yet : (s : Numbered) → s ≡ record { entries = []; numbers = [] } → replicate 256 s ≡ all_histories []
unfolding all_histories
none-yet s e =
    same_lists (replicate 256 s) (map (numbered []) (range_with_len 1 256)) (length-replicate 256 s ∙ sym (long (numbered [])))
    (λ k d h.
    let low : k < 256 = omega (arith, length-replicate 256 s, h) in
    get_or-replicate 256 k s d low ∙ e ∙ sym (at (numbered []) k d low))

-- the history at place i
pub history-at : (T : List Placed) (i : ℕ) (d : Numbered) → i < 256 → get_or (all_histories T) i d ≡ numbered T (1 + i)
unfolding all_histories
history-at T i d h = at (numbered T) i d h

pub histories-long : (T : List Placed) → length (all_histories T) ≡ 256
unfolding all_histories
histories-long T = long (numbered T)
