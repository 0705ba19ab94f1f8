-- What a history that is kept oldest first shows up to an entry.
use Rattle.std.proofs.Common.{◌≡◌, ℕ, ◌+◌, ◌<◌, Bool, true, false, ◌&&◌, not, ◌⊎◌, inl, inr, List, [], ◌∷◌, length, get_or, take, drop, refl, ap, sym, ◌∙◌}
use Rattle.std.proofs.lemmas.List.{take_more, take-append-drop}
use Rattle.dtx_values.specs.declared.entry.Entry.{Entry}
use Rattle.dtx_values.specs.declared.words.Outcome.TheVariants.{Committed, Aborted}
use Rattle.dtx_model.specs.Words.{has, ever, always, onto, past_of}
use Rattle.dtx_model.specs.Entries.{is_final}
use Rattle.dtx_model.specs.Outcome.{is_just, justified, is_decided_again, agree}
use Rattle.dtx_model.proofs.Bools.{or_right, or_false, and_never}
use Rattle.dtx_model.proofs.Histories.{onto-append, past_of-snoc}

-- the entry at i is the newest of the first i + 1
pub past-more : {E : Type 0} (xs : List E) (i : ℕ) (d : E) → i < length xs → past_of (take (i + 1) xs) ≡ get_or xs i d ∷ past_of (take i xs)
past-more xs i d k = ap past_of (take_more xs i d k) ∙ past_of-snoc (take i xs) (get_or xs i d)

-- the rest of the entries stand behind the first i
pub past-split : {E : Type 0} (xs : List E) (i : ℕ) → past_of xs ≡ onto (past_of (take i xs)) (drop i xs)
past-split xs i = ap past_of (sym (take-append-drop i xs)) ∙ onto-append [] (take i xs) (drop i xs)

-- what came once stays
ever-onto : {E : Type 0} (t : List E → E → Bool) (h xs : List E) → ever t h ≡ true → ever t (onto h xs) ≡ true
ever-onto t h [] k = k
ever-onto t h (x ∷ xs) k = ever-onto t (x ∷ h) xs (or_right (t h x) (ever t h) k)

pub ever-later : {E : Type 0} (t : List E → E → Bool) (xs : List E) (i : ℕ) → ever t (past_of (take i xs)) ≡ true → ever t (past_of xs) ≡ true
ever-later t xs i k = rw (past-split xs i) (ever-onto t (past_of (take i xs)) (drop i xs) k)

-- an entry that passes, with what stands before it
pub ever-at : {E : Type 0} (t : List E → E → Bool) (xs : List E) (i : ℕ) (d : E) → i < length xs → t (past_of (take i xs)) (get_or xs i d) ≡ true → ever t (past_of xs) ≡ true
ever-at t xs i d k p = ever-later t xs (i + 1) (rw (past-more xs i d k) (rw p refl))

-- one that doesn't pass, and none before it
pub never-more : {E : Type 0} (t : List E → E → Bool) (xs : List E) (i : ℕ) (d : E) → i < length xs → t (past_of (take i xs)) (get_or xs i d) ≡ false → ever t (past_of (take i xs)) ≡ false → ever t (past_of (take (i + 1) xs)) ≡ false
never-more t xs i d k p q = rw (past-more xs i d k) (or_false _ _ p q)

pub ruleset prefixes = (ever-at, never-more)

always-onto : {E : Type 0} (t : List E → E → Bool) (h xs : List E) → always t h ≡ false → always t (onto h xs) ≡ false
always-onto t h [] k = k
always-onto t h (x ∷ xs) k = always-onto t (x ∷ h) xs (rw k (and_never (t h x)))

has-onto : {E : Type 0} (p : E → Bool) (h xs : List E) → has p h ≡ true → has p (onto h xs) ≡ true
has-onto p h [] k = k
has-onto p h (x ∷ xs) k = has-onto p (x ∷ h) xs (or_right (p x) (has p h) k)

-- where the first i entries aren't just, the history isn't
pub unjust-later : (xs : List Entry) (i : ℕ) → justified (past_of (take i xs)) ≡ false → justified (past_of xs) ≡ false
unfolding justified
unjust-later xs i k = rw (past-split xs i) (always-onto is_just (past_of (take i xs)) (drop i xs) k)

-- and after i entries that are just it asks for entry i alone
pub just-more : (xs : List Entry) (i : ℕ) (d : Entry) → i < length xs → justified (past_of (take (i + 1) xs)) ≡ (is_just (past_of (take i xs)) (get_or xs i d) && justified (past_of (take i xs)))
unfolding justified
just-more xs i d k = rw (past-more xs i d k) refl

disagreed : (c a d : Bool) → (not (c && a) && not d) ≡ false → ((c ≡ true) × (a ≡ true)) ⊎ (d ≡ true)
disagreed true true d k = inl (refl, refl)
disagreed true false true k = inr refl
disagreed true false false k = absurd cc
disagreed false a true k = inr refl
disagreed false a false k = absurd cc

decided_twice : (b : Bool) → (b && not true) ≡ false
decided_twice true = refl
decided_twice false = refl

disagree-onto : (h xs : List Entry) → agree h ≡ false → agree (onto h xs) ≡ false
unfolding agree
disagree-onto h xs k = elim (disagreed (has (is_final Committed) h) (has (is_final Aborted) h) (ever is_decided_again h) k) [
  | inl p ↦ rw (has-onto (is_final Committed) h xs p.0, has-onto (is_final Aborted) h xs p.1) refl
  | inr q ↦ rw (ever-onto is_decided_again h xs q) (decided_twice _)
]

-- where the first i entries disagree, the history does
pub disagree-later : (xs : List Entry) (i : ℕ) → agree (past_of (take i xs)) ≡ false → agree (past_of xs) ≡ false
unfolding agree
disagree-later xs i k = rw (past-split xs i) (disagree-onto (past_of (take i xs)) (drop i xs) k)
