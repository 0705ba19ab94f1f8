-- Tests on entries, and on what a history has of them: what stands, who was enlisted and how, and what was decided.
use Rattle.std.proofs.Common.{ℕ, ◌==◌, Bool, false, List, ◌||◌, Option, Some, None, true, ◌&&◌, [], ◌∷◌, ◌≡◌, refl}
use Rattle.std.specs.Prelude.{not, is_none}
use Rattle.std.proofs.lemmas.Bool.{or_left, eqb-true}
use Rattle.dtx_values.specs.declared.entry.Entry.{Entry}
use Rattle.dtx_values.specs.declared.entry.Entry.TheVariants.{Enlisted, Cloned, OwnerAnswered, Decided, Voted, Reenlisted}
use Rattle.dtx_values.specs.declared.number.EnlNo.{EnlNo}
use Rattle.dtx_values.specs.declared.words.Outcome.TheVariants.{InDoubt}
use Rattle.dtx_values.specs.Class.{is_zero, is_volatile, is_promotable}
use Rattle.dtx_values.specs.declared.note.Note.{Note}
use Rattle.dtx_values.specs.declared.note.Plan.{Plan}
use Rattle.dtx_values.specs.declared.words.Class.{Class}
use Rattle.dtx_values.specs.declared.words.Outcome.{Outcome}
use Rattle.dtx_values.specs.declared.words.Vote.TheVariants.{No}
use Rattle.dtx_values.specs.Clones.{blocks}
use Rattle.dtx_model.specs.Words.{each, all_of, has, latest}
use Rattle.dtx_model.specs.Entries.{clone_of, is_vote, same_outcome, decision_of, is_decision}
use Rattle.dtx_model.specs.Outcome.{is_complete, enlisted, can_own}
use Rattle.dtx_model.specs.Plans.{planned}
use Rattle.dtx_model.proofs.Bools.{and_left, or_case, or_right, and_right}

abbrev pub is_enlisted : ℕ → Entry → Bool
is_enlisted e (Enlisted f c) = e == f.value
is_enlisted e _ = false

abbrev pub is_cloned : ℕ → Entry → Bool
is_cloned c (Cloned d k) = c == d.value
is_cloned c _ = false

-- each clone is complete
abbrev pub all_complete : List Entry → Bool
all_complete h = each (λ c. is_complete h c) (all_of clone_of h)

-- each Zero enlistment voted
abbrev pub zeros_cast : List Entry → Bool
zeros_cast h = each (λ x. not (is_zero x.1) || has (is_vote x.0.value) h) (enlisted h)

-- this outcome was decided
abbrev pub is_decided : Outcome → Option Outcome → Bool
is_decided x (Some y) = same_outcome x y
is_decided x None = false

-- the outcomes that are told without doubt
abbrev pub is_certain : Outcome → Bool
is_certain InDoubt = false
is_certain _ = true

-- this enlistment alone is durable or promotable, and can own the commit
abbrev pub is_only : ℕ → List (EnlNo × Class) → Bool
is_only e (x ∷ []) = (e == x.0.value) && can_own x.1
is_only e _ = false

-- this enlistment, where it is volatile
abbrev pub is_volatile_of : ℕ → EnlNo × Class → Bool
is_volatile_of e x = (e == x.0.value) && is_volatile x.1

-- some owner answered
abbrev pub is_answer : Entry → Bool
is_answer (OwnerAnswered e x) = true
is_answer _ = false

-- a promotable was enlisted
abbrev pub has_promotable : List Entry → Bool
has_promotable h = has (λ x. is_promotable x.1) (enlisted h)

-- the enlistment of this number was made, with a volatile's class
abbrev pub is_volatile_made : ℕ → Entry → Bool
is_volatile_made e (Enlisted f c) = (e == f.value) && is_volatile c
is_volatile_made e _ = false

-- where nothing was decided, no decision stands there
pub undecided : (h : List Entry) → latest decision_of h ≡ None → has is_decision h ≡ false
undecided [] e = refl
undecided (Decided y ∷ h) e = absurd cc
undecided (_ ∷ h) e = undecided h e

-- this enlistment, where it is durable or promotable
abbrev pub is_lasting_of : ℕ → EnlNo × Class → Bool
is_lasting_of e x = (e == x.0.value) && not (is_volatile x.1)

-- what is among the enlistments by a test is enlisted
pub is_there : (e : ℕ) (q : Class → Bool) (h : List Entry) → has (λ x. (e == x.0.value) && q x.1) (enlisted h) ≡ true → has (is_enlisted e) h ≡ true
is_there e q [] k = absurd cc
is_there e q (Enlisted f c ∷ h) k =
    or_case ((e == f.value) && q c) (has (λ x. (e == x.0.value) && q x.1) (enlisted h))
    (λ s. or_left (e == f.value) (has (is_enlisted e) h) (and_left (e == f.value) (q c) s)) (λ s. or_right (e == f.value) (has (is_enlisted e) h) (is_there e q h s)) k
is_there e q (x ∷ h) k = is_there e q h k

-- the plan is silent to what is due
abbrev pub is_unplanned : Plan → Option Note → Bool
is_unplanned p (Some n) = is_none (planned p n)
is_unplanned p None = true

-- a vote no
abbrev pub is_no_vote : Entry → Bool
is_no_vote (Voted e No) = true
is_no_vote _ = false

-- each clone whose opening would be a veto is complete
abbrev pub all_closed : List Entry → Bool
all_closed h = each (λ c. blocks c.1 || is_complete h c) (all_of clone_of h)

-- what each enlistment passes, one that stands passes
pub enlisted_passes : (q : ℕ → Bool) (e : ℕ) (h : List Entry) → each (λ x. q x.0.value) (enlisted h) ≡ true → has (is_enlisted e) h ≡ true → q e ≡ true
enlisted_passes q e [] a s = absurd cc
enlisted_passes q e (Enlisted f c ∷ h) a s =
    step q e f.value (has (is_enlisted e) h) (and_left (q f.value) (each (λ x. q x.0.value) (enlisted h)) a)
    (enlisted_passes q e h (and_right (q f.value) (each (λ x. q x.0.value) (enlisted h)) a)) (e == f.value) refl s
  where
    step : (q : ℕ → Bool) (e f : ℕ) (b : Bool) → q f ≡ true → (b ≡ true → q e ≡ true) → (t : Bool) → (e == f) ≡ t → (t || b) ≡ true → q e ≡ true
    step q e f b k ih true same s = let equal : e ≡ f = eqb-true e f same in rw equal k
    step q e f b k ih false same s = ih s
enlisted_passes q e (x ∷ h) a s = enlisted_passes q e h a s

-- this enlistment came back
abbrev pub is_return : ℕ → Entry → Bool
is_return n (Reenlisted f) = n == f.value
is_return n _ = false
