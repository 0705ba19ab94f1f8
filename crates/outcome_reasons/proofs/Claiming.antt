-- What is said of a commit, an abort and a doubt holds.
use Rattle.std.proofs.Common.{◌≡◌, ℕ, ◌+◌, ◌-◌, not, Bool, true, false, List, [], ◌∷◌, Option, Some, None, length, refl, ap, sym, ◌∙◌, arith, inl, inr}
use Rattle.std.specs.Option.{option_map}
use Rattle.std.proofs.lemmas.Bool.{cases_Bool, cases_lt, and_parts, not-true, and_right, and_left, or_from}
use Rattle.dtx_values.specs.declared.entry.Entry.{Entry}
use Rattle.dtx_values.specs.declared.entry.Entry.TheVariants.{Told}
use Rattle.dtx_values.specs.declared.entry.Party.TheVariants.{Client}
use Rattle.dtx_values.specs.declared.words.Outcome.{Outcome}
use Rattle.dtx_values.specs.declared.words.Outcome.TheVariants.{Aborted, Committed, InDoubt}
use Rattle.dtx_model.specs.Entries.{client_told_of}
use Rattle.dtx_model.specs.Outcome.{coordinator_doubt, doubt, evidence, is_first_veto, is_just, is_veto, justified, may_tell, owner_doubt, ready, single_doubt, vetoed}
use Rattle.dtx_model.specs.Traces.{Placed, history, is_at}
use Rattle.dtx_model.specs.Words.{always, ever, latest, or_else, past_of}
use Rattle.outcome_reasons.specs.Claims.{IsFirst, IsVetoAt, after}
use Rattle.outcome_reasons.specs.First.{first_of, when}
use Rattle.outcome_reasons.specs.Moments.{number_at, numbers_of}
use Rattle.outcome_reasons.proofs.Oldest.{found, oldest, oldest-take, oldest-twice, oldest-all, oldest-less}

-- what is said where a test passes, and where it doesn't
passes : {A : Type 0} (b : Bool) (a c : A) → when b a ≡ Some c → b ≡ true
passes true a c k = refl
passes false a c k = absurd cc

fails : {A : Type 0} (b : Bool) (a : A) → when b a ≡ None → b ≡ false
fails true a k = absurd cc
fails false a k = refl

neither : {A B : Type 0} (o : Option B) (p : Option A) (g : A → B) → or_else o (option_map g p) ≡ None → (o ≡ None) × (p ≡ None)
neither (Some b) p g k = absurd cc
neither None (Some a) g k = absurd cc
neither None None g k = (refl, refl)

-- the entries before which a test stands, with what is said then
abbrev standing : {A : Type 0} → (List Entry → Bool) → (List Entry → Entry → A) → List Entry → Entry → Option A
standing test r past x = when (test (x ∷ past)) (r past x)

-- where no entry says so, the test doesn't stand
never_now : {A : Type 0} (test : List Entry → Bool) (r : List Entry → Entry → A) → test [] ≡ false → (h : List Entry) → first_of (standing test r) h ≡ None → test h ≡ false
never_now test r base [] k = base
never_now test r base (x ∷ past) k = fails (test (x ∷ past)) (r past x) (neither (first_of (standing test r) past) (standing test r past x) (λ a. (length past, a)) k).1

no-longer : {A : Type 0} (f : List Entry → Entry → Option A) (t : ℕ) (y : Placed) (past : List Placed) → first_of f (history t (y ∷ past)) ≡ None → first_of f (history t past) ≡ None
no-longer f t y past k = elim (cases_Bool (is_at t y.0)) [
  | inl own ↦ (neither (first_of f (history t past)) (f (history t past) y.1) (λ a. (length (history t past), a)) (sym (with_it own) ∙ k)).0
  | inr other ↦ sym (without_it other) ∙ k
]
  where
    with_it : is_at t y.0 ≡ true → first_of f (history t (y ∷ past)) ≡ or_else (first_of f (history t past)) (option_map (λ a. (length (history t past), a)) (f (history t past) y.1))
    with_it own = rw own refl

    without_it : is_at t y.0 ≡ false → first_of f (history t (y ∷ past)) ≡ first_of f (history t past)
    without_it other = rw other refl

-- nor did it after fewer entries of the trace
never_before : {A : Type 0} (test : List Entry → Bool) (r : List Entry → Entry → A) → test [] ≡ false → (t : ℕ) (past : List Placed) → first_of (standing test r) (history t past) ≡ None → (k : ℕ) → test (history t (oldest k past)) ≡ false
never_before test r base t [] none k = base
never_before test r base t (y ∷ past) none k = elim (cases_lt k (length past + 1)) [
  | inl less ↦ ap (λ l. test (history t l)) (oldest-less k y past (omega (arith, less))) ∙ never_before test r base t past (no-longer (standing test r) t y past none) k
  | inr all ↦ ap (λ l. test (history t l)) (oldest-all k (y ∷ past) (omega (arith, all))) ∙ never_now test r base (history t (y ∷ past)) none
]

-- the first entry after which a test stands is of this number in the trace
first_standing : {A : Type 0} (test : List Entry → Bool) (r : List Entry → Entry → A) → test [] ≡ false → (t : ℕ) (T : List Placed) (i : ℕ) (a : A) → first_of (standing test r) (history t (past_of T)) ≡ Some (i, a) → IsFirst test t (number_at i (numbers_of t (past_of T))) T
first_standing test r base t T i a k =
    let n : ℕ = number_at i (numbers_of t (past_of T)) in
    let w = found (standing test r) t (past_of T) i a k in
    let all : (m : ℕ) → after t m T ≡ history t (oldest m (past_of T)) = λ m. sym (ap (history t) (oldest-take m T)) in
    record {
      stands = ap test (all n ∙ w.here) ∙ passes (test (w.entry ∷ history t (oldest (n - 1) (past_of T)))) (r (history t (oldest (n - 1) (past_of T))) w.entry) a w.says;
      never = λ m low.
          ap test (all m) ∙ sym (ap (λ l. test (history t l)) (oldest-twice m (n - 1) (past_of T) (omega (arith, low))))
          ∙ never_before test r base t (oldest (n - 1) (past_of T)) w.none m;
    }

no_evidence : evidence [] ≡ false
unfolding evidence ready
no_evidence = refl

no_doubt : doubt [] ≡ false
unfolding doubt owner_doubt coordinator_doubt single_doubt
no_doubt = refl

pub evidence-first : {A : Type 0} (r : List Entry → Entry → A) (t : ℕ) (T : List Placed) (i : ℕ) (a : A) → first_of (λ past x. when (evidence (x ∷ past)) (r past x)) (history t (past_of T)) ≡ Some (i, a)
    → IsFirst evidence t (number_at i (numbers_of t (past_of T))) T
evidence-first r t T i a k = first_standing evidence r no_evidence t T i a k

pub doubt-first : {A : Type 0} (r : List Entry → Entry → A) (t : ℕ) (T : List Placed) (i : ℕ) (a : A) → first_of (λ past x. when (doubt (x ∷ past)) (r past x)) (history t (past_of T)) ≡ Some (i, a)
    → IsFirst doubt t (number_at i (numbers_of t (past_of T))) T
doubt-first r t T i a k = first_standing doubt r no_doubt t T i a k

-- no first veto
never_vetoed : {A : Type 0} (r : List Entry → Entry → A) (h : List Entry) → first_of (λ past x. when (is_first_veto past x) (r past x)) h ≡ None → vetoed h ≡ false
unfolding vetoed
never_vetoed r [] k = refl
never_vetoed {A} r (x ∷ past) k =
    let f : List Entry → Entry → Option A = λ l y. when (is_first_veto l y) (r l y) in
    let none = neither (first_of f past) (f past x) (λ a. (length past, a)) k in
    or_from (is_first_veto past x) (ever is_first_veto past) (fails (is_first_veto past x) (r past x) none.1) (never_vetoed r past none.0)

pub veto-first : {A : Type 0} (r : List Entry → Entry → A) (t : ℕ) (T : List Placed) (i : ℕ) (a : A) → first_of (λ past x. when (is_first_veto past x) (r past x)) (history t (past_of T)) ≡ Some (i, a)
    → IsVetoAt t (number_at i (numbers_of t (past_of T))) T
veto-first {A} r t T i a k =
    let n : ℕ = number_at i (numbers_of t (past_of T)) in
    let w = found (λ past x. when (is_first_veto past x) (r past x)) t (past_of T) i a k in
    let before : List Entry = history t (oldest (n - 1) (past_of T)) in
    let all : (m : ℕ) → after t m T ≡ history t (oldest m (past_of T)) = λ m. sym (ap (history t) (oldest-take m T)) in
    let both = and_parts (is_veto before w.entry) (not (evidence before)) (passes (is_first_veto before w.entry) (r before w.entry) a w.says) in
    record {
      entry = w.entry;
      here = all n ∙ w.here ∙ sym (ap (λ l. w.entry ∷ l) (all (n - 1)));
      veto = ap (λ l. is_veto l w.entry) (all (n - 1)) ∙ both.0;
      unvetoed = ap vetoed (all (n - 1)) ∙ never_vetoed r before w.none;
      unevident = ap evidence (all (n - 1)) ∙ not-true (evidence before) both.1;
    }

-- the client was told by this entry, or by one before it
told_by : (x : Entry) (o : Outcome) → client_told_of x ≡ Some o → x ≡ Told Client o
told_by (Told Client p) o k = same k
  where
    same : Some p ≡ Some o → Told Client p ≡ Told Client o
    same q = cc
told_by _ o k = absurd cc

-- where this outcome may never be told, and the client was told it, the history isn't justified
unjust : (o : Outcome) (Never : List Entry → Type 0) → ((x : Entry) (past : List Entry) → Never (x ∷ past) → Never past) → ((past : List Entry) → Never past → may_tell past Client o ≡ false)
    → (h : List Entry) → Never h → latest client_told_of h ≡ Some o → justified h ≡ false
unfolding justified
unjust o Never down bars [] never k = absurd cc
unjust o Never down bars (x ∷ past) never k = by (client_told_of x) (λ w. unjust o Never down bars past (down x past never) w) refl k
  where
    by : (p : Option Outcome) → (latest client_told_of past ≡ Some o → always is_just past ≡ false) → client_told_of x ≡ p → or_else p (latest client_told_of past) ≡ Some o → always is_just (x ∷ past) ≡ false
    by (Some q) ih is e = and_left (is_just past x) (always is_just past) (ap (is_just past) (told_by x o (is ∙ e)) ∙ bars past (down x past never))
    by None ih is e = and_right (is_just past x) (always is_just past) (ih e)

before_none : {A : Type 0} (f : List Entry → Entry → Option A) (x : Entry) (past : List Entry) → first_of f (x ∷ past) ≡ None → first_of f past ≡ None
before_none f x past k = (neither (first_of f past) (f past x) (λ a. (length past, a)) k).0

pub unjust-commit : {A : Type 0} (r : List Entry → Entry → A) (h : List Entry) → first_of (λ past x. when (evidence (x ∷ past)) (r past x)) h ≡ None → latest client_told_of h ≡ Some Committed → justified h ≡ false
unfolding may_tell
unjust-commit {A} r h none told =
    unjust Committed (λ l. first_of (standing evidence r) l ≡ None) (λ x past k. before_none (standing evidence r) x past k) (λ past k. never_now evidence r no_evidence past k) h none told

pub unjust-doubt : {A : Type 0} (r : List Entry → Entry → A) (h : List Entry) → first_of (λ past x. when (doubt (x ∷ past)) (r past x)) h ≡ None → latest client_told_of h ≡ Some InDoubt → justified h ≡ false
unfolding may_tell
unjust-doubt {A} r h none told =
    unjust InDoubt (λ l. first_of (standing doubt r) l ≡ None) (λ x past k. before_none (standing doubt r) x past k) (λ past k. never_now doubt r no_doubt past k) h none told

pub unjust-abort : {A : Type 0} (r : List Entry → Entry → A) (h : List Entry) → first_of (λ past x. when (is_first_veto past x) (r past x)) h ≡ None → latest client_told_of h ≡ Some Aborted → justified h ≡ false
unfolding may_tell
unjust-abort {A} r h none told =
    let f : List Entry → Entry → Option A = λ past x. when (is_first_veto past x) (r past x) in
    unjust Aborted (λ l. first_of f l ≡ None) (λ x past k. before_none f x past k) (λ past k. and_left (vetoed past) (not (evidence past)) (never_vetoed r past k)) h none told
