-- One transaction of a manager goes on, and what holds of all is kept.
use Rattle.std.proofs.Common.{ℕ, zero, suc, Bool, true, false, ◌&&◌, ◌==◌, ◌≡◌, ◌≢◌, ◌≤◌, ◌<◌, length, ◌+◌, ◌-◌, ◌∙◌, List, [], ◌∷◌, Some, None, slice_get, slice_set, refl, ap, arith, subst, sym, inl, inr, if◌then◌else◌}
use Rattle.dtx_values.specs.TxIds.{number_of}
use Rattle.std.specs.Prelude.{nat_lt}
use Rattle.std.proofs.lemmas.Bool.{eqb-true}
use Rattle.std.proofs.lemmas.Option.{slice_get_past}
use Rattle.std.proofs.lemmas.Bool.Decides.{eqb_tells, nat_tests}
use Rattle.dtx_values.specs.declared.tx_id.TxId.{TxId}
use Rattle.dtx_values.proofs.Ids.{same_id}
use Rattle.dtx_model.proofs.Bools.{and_right}
use Rattle.tx_world.specs.AtLog.{id_of}
use Rattle.tx_world.proofs.Fitting.{own_identifier}
use Rattle.transactions.specs.Keeping.{AreNumbered}
use Rattle.transactions.specs.Slots.{AreSame, is_live, is_used, live_at, live_in}
use Rattle.transactions.specs.State.{LiveState}

-- what stands in a list where one item was put
pub get_here : {A : Type 0} (xs : List A) (i : ℕ) (x y : A) → slice_get xs i ≡ Some x → slice_get (slice_set xs i y) i ≡ Some y
get_here [] i x y e = absurd cc
get_here (z ∷ xs) zero x y e = refl
get_here (z ∷ xs) (suc i) x y e = get_here xs i x y e

pub get_there : {A : Type 0} (xs : List A) (i j : ℕ) (y : A) → j ≢ i → slice_get (slice_set xs i y) j ≡ slice_get xs j
get_there [] i j y n = refl
get_there (z ∷ xs) zero zero y n = absurd (n refl)
get_there (z ∷ xs) zero (suc j) y n = refl
get_there (z ∷ xs) (suc i) zero y n = refl
get_there (z ∷ xs) (suc i) (suc j) y n = get_there xs i j y (λ e. n (ap suc e))

-- The transaction at a place that was put there, and the others.
pub put_at : {A : Type 0} {P : A → Type 0} (xs : List A) (i : ℕ) (x y : A) → slice_get xs i ≡ Some x → P y → ((j : ℕ) (z : A) → j ≢ i → slice_get xs j ≡ Some z → P z) → (j : ℕ) (z : A) → slice_get (slice_set xs i y) j ≡ Some z → P z
put_at {A} {P} xs i x y here own other j z e = elim (eqb_tells j i) [ inl k ↦ subst P (same k.1) own | inr k ↦ other j z k.1 (sym (get_there xs i j y k.1) ∙ e) ]
  where
    the_same : {B : Type 0} (a b : B) → Some a ≡ Some b → a ≡ b
    the_same a b q = cc

    same : j ≡ i → y ≡ z
    same k = the_same y z (sym (get_here xs i x y here) ∙ (ap (slice_get (slice_set xs i y)) (sym k) ∙ e))

-- this transaction goes on there still, where its number and what its place is used for are as before
pub still_live : (t : TxId) (x y : LiveState) → (y.usage ≡ x.usage) × (y.number ≡ x.number) → is_live t x ≡ true → is_live t y ≡ true
still_live t x y same is = ap (λ u. is_used u && (number_of y.number == number_of t)) same.0 ∙ (ap (λ (n : TxId). is_used x.usage && (number_of n == number_of t)) same.1 ∙ is)

-- what goes on there as this transaction has its number
pub live_number : (t : TxId) (x : LiveState) → is_live t x ≡ true → x.number ≡ t
live_number t x is = same_id x.number t (eqb-true (number_of x.number) (number_of t) (and_right (is_used x.usage) (number_of x.number == number_of t) is))

-- a transaction of another number doesn't go on there
pub not_live : (t u : TxId) (x : LiveState) → x.number ≡ t → u ≢ t → is_live u x ≡ false
not_live t u x number n = elim (eqb_tells (number_of x.number) (number_of u)) [
  | inl k ↦ absurd (n (same_id u t (sym k.1 ∙ ap (λ (v : TxId). number_of v) number)))
  | inr k ↦ ap (λ b. is_used x.usage && b) k.0 ∙ and_false (is_used x.usage)
]
  where
    and_false : (b : Bool) → (b && false) ≡ false
    and_false true = refl
    and_false false = refl

-- what is in use, and has this number, goes on as that transaction
pub used_live : (t : TxId) (y : LiveState) → is_used y.usage ≡ true → y.number ≡ t → is_live t y ≡ true
used_live t y is number = ap (λ b. b && (number_of y.number == number_of t)) is ∙ (ap (λ (n : TxId). number_of n == number_of t) number ∙ itself (number_of t))
  where
    itself : (n : ℕ) → (n == n) ≡ true
    itself n = grind (arith, nat_tests)

pub live_here : (t : TxId) (xs : List LiveState) (i : ℕ) (x y : LiveState) → i + 1 ≡ t.t.value → slice_get xs i ≡ Some x → is_live t y ≡ true → live_at t (slice_set xs i y) ≡ Some y
live_here t xs i x y place here is =
    let same : t.t.value - 1 ≡ i = omega (arith, place) in
    ap (live_in t) (ap (slice_get (slice_set xs i y)) same ∙ get_here xs i x y here) ∙ ap (λ b. if b then Some y else None) is

pub live_was : (t : TxId) (xs : List LiveState) (i : ℕ) (x : LiveState) → i + 1 ≡ t.t.value → slice_get xs i ≡ Some x → is_live t x ≡ true → live_at t xs ≡ Some x
live_was t xs i x place here is =
    let same : t.t.value - 1 ≡ i = omega (arith, place) in
    ap (live_in t) (ap (slice_get xs) same ∙ here) ∙ ap (λ b. if b then Some x else None) is

-- and where another stands, this one doesn't go on
pub live_off : (t : TxId) (xs : List LiveState) (i : ℕ) (x : LiveState) → i + 1 ≡ t.t.value → slice_get xs i ≡ Some x → is_live t x ≡ false → live_at t xs ≡ None
live_off t xs i x place here off =
    let same : t.t.value - 1 ≡ i = omega (arith, place) in
    ap (live_in t) (ap (slice_get xs) same ∙ here) ∙ ap (λ b. if b then Some x else None) off

-- and none goes on at a place past the list
pub live_past : (t : TxId) (xs : List LiveState) (n i : ℕ) → i + 1 ≡ t.t.value → n ≡ length xs → (i < n → false ≡ true) → live_at t xs ≡ None
live_past t xs n i place len none =
    let same : t.t.value - 1 ≡ i = omega (arith, place) in
    ap (λ (j : ℕ). live_in t (slice_get xs j)) same ∙ ap (live_in t) (by (nat_lt i n) refl)
  where
    never : false ≡ true → ⊥
    never q = cc

    by : (b : Bool) → nat_lt i n ≡ b → slice_get xs i ≡ None
    by true low = let under : i < n = grind (arith, nat_tests) in absurd (never (none under))
    by false high = let over : n ≤ i = grind (arith, nat_tests) in slice_get_past xs i (omega arith)

-- none goes on where no transaction of that number does
pub none_live : (u : TxId) (x : LiveState) → is_live u x ≡ false → live_in u (Some x) ≡ None
none_live u x off = ap (λ b. if b then Some x else None) off

-- What was put at the place of transaction t leaves the others, where it is t's, and what stood there was t's or wasn't in use.
pub others_put : (t : TxId) (xs : List LiveState) (i : ℕ) (x y : LiveState) → i + 1 ≡ t.t.value → slice_get xs i ≡ Some x → ((u : TxId) → u ≢ t → is_live u x ≡ false) → y.number ≡ t → AreSame t xs (slice_set xs i y)
others_put t xs i x y place here was number u n = elim (eqb_tells (u.t.value - 1) i) [
  | inl k ↦ (
      let after : slice_get (slice_set xs i y) (u.t.value - 1) ≡ Some y = ap (slice_get (slice_set xs i y)) k.1 ∙ get_here xs i x y here in
      let before : slice_get xs (u.t.value - 1) ≡ Some x = ap (slice_get xs) k.1 ∙ here in
      ap (live_in u) after ∙ (none_live u y (not_live t u y number n) ∙ sym (ap (live_in u) before ∙ none_live u x (was u n))))
  | inr k ↦ ap (live_in u) (get_there xs i (u.t.value - 1) y k.1)
]

pub others_same : (t : TxId) (xs : List LiveState) (i : ℕ) (x y : LiveState) → i + 1 ≡ t.t.value → slice_get xs i ≡ Some x → is_live t x ≡ true → y.number ≡ x.number → AreSame t xs (slice_set xs i y)
others_same t xs i x y place here is same =
    let number = live_number t x is in
    others_put t xs i x y place here (λ u n. not_live t u x number n) (same ∙ number)

-- the numbers are kept
pub numbered_set : (xs : List LiveState) (i : ℕ) (x y : LiveState) → slice_get xs i ≡ Some x → AreNumbered xs → y.number ≡ x.number → y.tx.transaction ≡ y.number → AreNumbered (slice_set xs i y)
numbered_set xs i x y here numbered number own j z e = elim (eqb_tells j i) [ inl k ↦ this k.1 | inr k ↦ numbered j z (sym (get_there xs i j y k.1) ∙ e) ]
  where
    the_same : {B : Type 0} (a b : B) → Some a ≡ Some b → a ≡ b
    the_same a b q = cc

    this : j ≡ i → (z.number.t.value ≡ j + 1) × (z.tx.transaction ≡ z.number)
    this k =
        let same : y ≡ z = the_same y z (sym (get_here xs i x y here) ∙ (ap (slice_get (slice_set xs i y)) (sym k) ∙ e)) in
        subst (λ (v : LiveState). (v.number.t.value ≡ j + 1) × (v.tx.transaction ≡ v.number)) same
        (ap (λ (t : TxId). t.t.value) number ∙ ((numbered i x here).0 ∙ ap (λ n. n + 1) (sym k)), own)

-- the identifiers of two transactions at two places are two
pub apart : (xs : List LiveState) (i j : ℕ) (x z : LiveState) → AreNumbered xs → slice_get xs i ≡ Some x → slice_get xs j ≡ Some z → j ≢ i → id_of z.tx ≢ id_of x.tx
apart xs i j x z numbered here there n =
    let a : x.tx.transaction.t.value ≡ i + 1 = ap (λ (t : TxId). t.t.value) (numbered i x here).1 ∙ (numbered i x here).0 in
    let b : z.tx.transaction.t.value ≡ j + 1 = ap (λ (t : TxId). t.t.value) (numbered j z there).1 ∙ (numbered j z there).0 in
    own_identifier z.tx.transaction x.tx.transaction (λ e. let same : z.tx.transaction.t.value ≡ x.tx.transaction.t.value = ap (λ (t : TxId). t.t.value) e in n (omega (arith, a, b, same)))
