-- What a history has of the handing of the commit, and of the owner's answer.
use Rattle.std.proofs.Common.{Bool, false, ◌≡◌, ℕ, true, refl, ◌==◌, List, [], ◌∷◌, ◌&&◌, ◌||◌, ◌∙◌, ap, sym, subst}
use Rattle.std.specs.Prelude.{not}
use Rattle.std.proofs.lemmas.Bool.{eqb-true, or_left}
use Rattle.dtx_values.specs.declared.number.EnlNo.{EnlNo}
use Rattle.dtx_values.specs.declared.entry.Entry.{Entry}
use Rattle.dtx_values.specs.declared.entry.Entry.TheVariants.{OwnerAnswered, Handed}
use Rattle.dtx_values.specs.declared.words.Class.{Class}
use Rattle.dtx_values.specs.declared.words.Outcome.{Outcome}
use Rattle.dtx_values.specs.declared.words.Outcome.TheVariants.{Committed}
use Rattle.dtx_model.specs.Words.{has, all_of}
use Rattle.dtx_model.specs.Entries.{same_outcome, is_hand, is_any_hand, is_owner, is_any_owner, handed_of}
use Rattle.dtx_model.specs.Outcome.{can_own, is_empty, may_decide, owner_committed}
use Rattle.dtx_model.proofs.Bools.{and_left, and_right, or_case, or_right}
use Rattle.history_table.proofs.Tests.{eq_self, eq_swap}
use Rattle.history_table.proofs.EntryTests.{is_only, is_answer}

-- some owner answered so
abbrev pub is_answered : Outcome → Entry → Bool
is_answered o (OwnerAnswered e x) = same_outcome o x
is_answered o _ = false

-- what was handed to this one was handed to some
pub hand_any : (e : ℕ) (x : Entry) → is_hand e x ≡ true → is_any_hand x ≡ true
hand_any e (Handed f) k = refl
hand_any e _ k = k

-- the only one has one name
pub only_name : (e f : ℕ) (ds : List (EnlNo × Class)) → is_only e ds ≡ true → is_only f ds ≡ true → (f == e) ≡ true
only_name e f [] p q = absurd cc
only_name e f (x ∷ []) p q =
    let first : e ≡ x.0.value = eqb-true e x.0.value (and_left (e == x.0.value) (can_own x.1) p) in
    let second : f ≡ x.0.value = eqb-true f x.0.value (and_left (f == x.0.value) (can_own x.1) q) in
    rw (first, second) (eq_self x.0.value)
only_name e f (x ∷ y ∷ ds) p q = absurd cc

-- somebody was handed the commit
pub hand_name : (h : List Entry) → has is_any_hand h ≡ true → (e : ℕ) × (has (is_hand e) h ≡ true)
hand_name [] k = absurd cc
hand_name (Handed f ∷ h) k = (f.value, rw (eq_self f.value) refl)
hand_name (x ∷ h) k = hand_name h k

-- what is ready, and shows no record, and whose one durable or promotable may decide and was handed the commit, is evidence where that one answered committed
pub owner_alone : (a s p l : Bool) (h : List Entry) (e : ℕ) (ds : List (EnlNo × Class)) → a ≡ true → may_decide h e ≡ true → (p && l) ≡ false → is_only e ds ≡ true → has (is_hand e) h ≡ true
    → (a && ((s && not p && is_empty ds) || owner_committed h ds || (p && l))) ≡ has (is_owner e Committed) h
owner_alone a s p l h e [] b q r o k = absurd cc
owner_alone a s p l h e (x ∷ []) b q r o k =
    let same : e ≡ x.0.value = eqb-true e x.0.value (and_left (e == x.0.value) (can_own x.1) o) in
    let hand : has (is_hand x.0.value) h ≡ true = subst (λ n. has (is_hand n) h ≡ true) same k in
    let may : may_decide h x.0.value ≡ true = subst (λ n. may_decide h n ≡ true) same q in
    step a (s && not p) (p && l) (can_own x.1 || false) (may_decide h x.0.value) (has (is_hand x.0.value) h) (has (is_owner x.0.value Committed) h) b r (or_left (can_own x.1) false (and_right (e == x.0.value) (can_own x.1) o)) may hand
    ∙ ap (λ n. has (is_owner n Committed) h) (sym same)
  where
    step : (a s l c m k o : Bool) → a ≡ true → l ≡ false → c ≡ true → m ≡ true → k ≡ true → (a && ((s && false) || (true && c && m && k && o) || l)) ≡ o
    step a true l c m k true d r f g i = rw (d, r, f, g, i) refl
    step a true l c m k false d r f g i = rw (d, r, f, g, i) refl
    step a false l c m k true d r f g i = rw (d, r, f, g, i) refl
    step a false l c m k false d r f g i = rw (d, r, f, g, i) refl
owner_alone a s p l h e (x ∷ y ∷ ds) b q r o k = absurd cc

-- an answer is an owner's
pub answered_any : (x : Outcome) (y : Entry) → is_answered x y ≡ true → is_answer y ≡ true
answered_any x (OwnerAnswered f o) k = refl
answered_any x _ k = k

-- what was answered by this owner was answered
pub any_answer : (e : ℕ) (x : Entry) → is_any_owner e x ≡ true → is_answer x ≡ true
any_answer e (OwnerAnswered f y) k = refl
any_answer e _ k = k

-- whoever was handed the commit stands among them
pub hand_listed : (e : ℕ) (h : List Entry) → has (is_hand e) h ≡ true → has (λ f. f.value == e) (all_of handed_of h) ≡ true
hand_listed e [] k = k
hand_listed e (Handed f ∷ h) k =
    or_case (e == f.value) (has (is_hand e) h) (λ s. or_left (f.value == e) _ (eq_swap f.value e ∙ s)) (λ s. or_right (f.value == e) _ (hand_listed e h s)) k
hand_listed e (x ∷ h) k = hand_listed e h k
