-- The oldest entries of a trace, and where in it an entry stands that says something.
use Rattle.std.proofs.Common.{◌≡◌, ℕ, suc, ◌+◌, ◌-◌, ◌<◌, ◌≤◌, cond, true, false, List, [], ◌∷◌, Option, Some, None, length, nat_le, take, drop, refl, ap, sym, ◌∙◌, arith, inl, inr}
use Rattle.std.specs.Option.{option_map}
use Rattle.std.proofs.lemmas.Bool.{cases_Bool, cases_lt, eq-eqb, ne_eqb, le-leb, lt-leb}
use Rattle.std.proofs.lemmas.List.{length-take-le, take_all}
use Rattle.dtx_values.specs.declared.entry.Entry.{Entry}
use Rattle.dtx_model.specs.Traces.{Placed, history, is_at}
use Rattle.dtx_model.specs.Words.{onto, or_else, past_of}
use Rattle.dtx_model.proofs.Prefixes.{past-split}
use Rattle.outcome_reasons.specs.First.{first_of}
use Rattle.outcome_reasons.specs.Moments.{number_at, numbers_of}
use Rattle.outcome_reasons.proofs.Firsts.{length-past}

-- the oldest n of a list that stands newest first
abbrev pub oldest : {E : Type 0} → ℕ → List E → List E
oldest n [] = []
oldest n (y ∷ past) = cond (nat_le (length past + 1) n) (y ∷ past) (oldest n past)

-- all of them
pub oldest-all : {E : Type 0} (n : ℕ) (past : List E) → length past ≤ n → oldest n past ≡ past
oldest-all n [] k = refl
oldest-all n (y ∷ past) k = rw (le-leb (length past + 1) n (omega (arith, k))) refl

-- the newest isn't among them
pub oldest-less : {E : Type 0} (n : ℕ) (y : E) (past : List E) → n ≤ length past → oldest n (y ∷ past) ≡ oldest n past
oldest-less n y past k = rw (lt-leb (length past + 1) n (omega (arith, k))) refl

oldest-onto : {E : Type 0} (n : ℕ) (h xs : List E) → n ≤ length h → oldest n (onto h xs) ≡ oldest n h
oldest-onto n h [] k = refl
oldest-onto n h (x ∷ xs) k = oldest-onto n (x ∷ h) xs (omega (arith, k)) ∙ oldest-less n x h k

-- they are the first n of the list that stands oldest first
pub oldest-take : {E : Type 0} (n : ℕ) (xs : List E) → oldest n (past_of xs) ≡ past_of (take n xs)
oldest-take n xs = elim (cases_lt (length xs) n) [
  | inl over ↦
      let all : take n xs ≡ xs = take_all n xs (omega (arith, over)) in
      oldest-all n (past_of xs) (omega (arith, over, length-past xs)) ∙ sym (ap past_of all)
  | inr within ↦
      let size : length (past_of (take n xs)) ≡ n = length-past (take n xs) ∙ length-take-le n xs within in
      ap (oldest n) (past-split xs n) ∙ oldest-onto n (past_of (take n xs)) (drop n xs) (omega (arith, size)) ∙ oldest-all n (past_of (take n xs)) (omega (arith, size))
]

-- the oldest of the oldest
pub oldest-twice : {E : Type 0} (k n : ℕ) (past : List E) → k ≤ n → oldest k (oldest n past) ≡ oldest k past
oldest-twice k n [] low = refl
oldest-twice k n (y ∷ past) low = elim (cases_lt n (length past + 1)) [
  | inl within ↦ ap (oldest k) (oldest-less n y past (omega (arith, within))) ∙ oldest-twice k n past low ∙ sym (oldest-less k y past (omega (arith, within, low)))
  | inr all ↦ ap (oldest k) (oldest-all n (y ∷ past) (omega (arith, all)))
]

-- the same pair has the same parts
pair_or : {A B : Type 0} → A × B → Option (A × B) → A × B
pair_or d (Some p) = p
pair_or d None = d

pub parts_of : {A B : Type 0} (a c : A) (b d : B) → ◌≡◌ {A = Option (A × B)} (Some (a, b)) (Some (c, d)) → (a ≡ c) × (b ≡ d)
unfolding pair_or
parts_of a c b d k = (ap (λ o. (pair_or (a, b) o).0) k, ap (λ o. (pair_or (a, b) o).1) k)

-- there are as many numbers as entries
sizes : (t : ℕ) (past : List Placed) → length (numbers_of t past) ≡ length (history t past)
sizes t [] = refl
sizes t (y ∷ past) = elim (cases_Bool (is_at t y.0)) [
  | inl own ↦ rw own (ap suc (sizes t past))
  | inr other ↦ rw other (sizes t past)
]

-- before the first entry that says something stand fewer entries than there are
first-within : {E A : Type 0} (f : List E → E → Option A) (h : List E) (i : ℕ) (a : A) → first_of f h ≡ Some (i, a) → i < length h
first-within f [] i a k = absurd cc
first-within {E} {A} f (x ∷ past) i a k = omega (arith, by (first_of f past) (f past x) (λ w. first-within f past i a w) refl k)
  where
    by : (o : Option (ℕ × A)) (p : Option A) → (first_of f past ≡ Some (i, a) → i < length past) → first_of f past ≡ o → or_else o (option_map (λ b. (length past, b)) p) ≡ Some (i, a) → i < length past + 1
    by (Some r) p ih is k = omega (arith, ih (is ∙ k))
    by None (Some b) ih is k = omega (arith, (parts_of (length past) i b a k).0)
    by None None ih is k = absurd cc

-- entry n of the trace is of transaction t, it says a, and no entry of t before it says anything
pub record Found {A : Type 0} (f : List Entry → Entry → Option A) (t : ℕ) (past : List Placed) (n : ℕ) (a : A) : Type 0 where
  pub entry : Entry
  pub here : history t (oldest n past) ≡ entry ∷ history t (oldest (n - 1) past)
  pub says : f (history t (oldest (n - 1) past)) entry ≡ Some a
  pub none : first_of f (history t (oldest (n - 1) past)) ≡ None
  pub within : n ≤ length past

-- so it is with an entry more
later : {A : Type 0} (f : List Entry → Entry → Option A) (t : ℕ) (y : Placed) (past : List Placed) (n : ℕ) (a : A) → Found f t past n a → Found f t (y ∷ past) n a
later f t y past n a w =
    let now : oldest n (y ∷ past) ≡ oldest n past = oldest-less n y past w.within in
    let before : oldest (n - 1) (y ∷ past) ≡ oldest (n - 1) past = oldest-less (n - 1) y past (omega (arith, w.within)) in
    record {
      entry = w.entry;
      here = ap (history t) now ∙ w.here ∙ sym (ap (λ l. w.entry ∷ history t l) before);
      says = ap (λ l. f (history t l) w.entry) before ∙ w.says;
      none = ap (λ l. first_of f (history t l)) before ∙ w.none;
      within = omega (arith, w.within);
    }

-- the newest entry is the one
newest : {A : Type 0} (f : List Entry → Entry → Option A) (t : ℕ) (y : Placed) (past : List Placed) (a : A) → is_at t y.0 ≡ true → f (history t past) y.1 ≡ Some a → first_of f (history t past) ≡ None → Found f t (y ∷ past) (length past + 1) a
newest f t y past a own says none =
    let now : oldest (length past + 1) (y ∷ past) ≡ y ∷ past = oldest-all (length past + 1) (y ∷ past) (omega arith) in
    let one : length past + 1 - 1 ≡ length past = omega arith in
    let before : oldest (length past + 1 - 1) (y ∷ past) ≡ past = ap (λ n. oldest n (y ∷ past)) one ∙ oldest-less (length past) y past (omega arith) ∙ oldest-all (length past) past (omega arith) in
    record {
      entry = y.1;
      here = ap (history t) now ∙ rw own refl ∙ sym (ap (λ l. y.1 ∷ history t l) before);
      says = ap (λ l. f (history t l) y.1) before ∙ says;
      none = ap (λ l. first_of f (history t l)) before ∙ none;
      within = omega arith;
    }

-- what a history's first entry says, an entry of the trace says
pub found : {A : Type 0} (f : List Entry → Entry → Option A) (t : ℕ) (past : List Placed) (i : ℕ) (a : A) → first_of f (history t past) ≡ Some (i, a) → Found f t past (number_at i (numbers_of t past)) a
found f t [] i a k = absurd cc
found {A} f t (y ∷ past) i a k = elim (cases_Bool (is_at t y.0)) [
  | inl own ↦
      rw own (by own (first_of f (history t past)) (f (history t past) y.1) (λ w. found f t past i a w) refl refl (sym (firsts own) ∙ k))
  | inr other ↦ rw other (later f t y past (number_at i (numbers_of t past)) a (found f t past i a (sym (same other) ∙ k)))
]
  where
    firsts : is_at t y.0 ≡ true → first_of f (history t (y ∷ past)) ≡ or_else (first_of f (history t past)) (option_map (λ b. (length (history t past), b)) (f (history t past) y.1))
    firsts own = rw own refl

    same : is_at t y.0 ≡ false → first_of f (history t (y ∷ past)) ≡ first_of f (history t past)
    same other = rw other refl

    by : is_at t y.0 ≡ true → (o : Option (ℕ × A)) (p : Option A) → (first_of f (history t past) ≡ Some (i, a) → Found f t past (number_at i (numbers_of t past)) a) → first_of f (history t past) ≡ o → f (history t past) y.1 ≡ p → or_else o (option_map (λ b. (length (history t past), b)) p) ≡ Some (i, a) → Found f t (y ∷ past) (number_at i ((length past + 1) ∷ numbers_of t past)) a
    by own (Some r) p ih is says k =
        let low : i < length (numbers_of t past) = omega (arith, first-within f (history t past) i a (is ∙ k), sizes t past) in
        rw (ne_eqb i (length (numbers_of t past)) (λ e. omega (arith, e, low))) (later f t y past (number_at i (numbers_of t past)) a (ih (is ∙ k)))
    by own None (Some b) ih is says k =
        rw (eq-eqb i (length (numbers_of t past)) (sym (parts_of (length (history t past)) i b a k).0 ∙ sym (sizes t past))) (newest f t y past a own (says ∙ ap Some (parts_of (length (history t past)) i b a k).1) is)
    by own None None ih is says k = absurd cc
