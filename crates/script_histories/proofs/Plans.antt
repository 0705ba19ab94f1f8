-- What a script plans of votes and answers, and that a history has it.
use Rattle.std.proofs.Common.{◌≡◌, ℕ, Bool, true, List, [], ◌∷◌, Option, refl}
use Rattle.dtx_values.specs.declared.entry.Entry.{Entry}
use Rattle.dtx_values.specs.declared.entry.Entry.TheVariants.{OwnerAnswered, Voted}
use Rattle.dtx_values.specs.declared.script.Line.{Line}
use Rattle.dtx_values.specs.declared.words.Outcome.{Outcome}
use Rattle.dtx_values.specs.declared.words.Vote.{Vote}
use Rattle.dtx_model.specs.Words.{always, each}
use Rattle.dtx_model.specs.Caused.{is_as_planned, is_outcome_planned, is_vote_planned, plans_of}
use Rattle.dtx_model.specs.History.{nobody}
use Rattle.dtx_model.proofs.Bools.{and_both, and_left, and_right}

abbrev pub planned_vote : List Line → ℕ → Option Vote
planned_vote s e = (plans_of s e).vote

abbrev pub planned_owner : List Line → ℕ → Option Outcome
planned_owner s e = (plans_of s e).owner

abbrev pub planned_promotion : List Line → ℕ → Option Bool
planned_promotion s e = (plans_of s e).promote

-- a vote and an owner's answer are what the line plans
abbrev pub is_planned : List Line → Entry → Bool
is_planned s (Voted e v) = is_vote_planned (planned_vote s e.value) v
is_planned s (OwnerAnswered e x) = is_outcome_planned (planned_owner s e.value) x
is_planned s _ = true

-- where no object answers, each is as planned
pub each_as_planned : (s : List Line) (h : List Entry) → always (is_as_planned (plans_of s) nobody) h ≡ true → each (is_planned s) h ≡ true
each_as_planned s [] k = refl
each_as_planned s (x ∷ h) k =
    and_both (is_planned s x) (each (is_planned s) h) (one x (and_left (is_as_planned (plans_of s) nobody h x) (always (is_as_planned (plans_of s) nobody) h) k))
    (each_as_planned s h (and_right (is_as_planned (plans_of s) nobody h x) (always (is_as_planned (plans_of s) nobody) h) k))
  where
    one : (x : Entry) → is_as_planned (plans_of s) nobody h x ≡ true → is_planned s x ≡ true
    one (Voted e v) k = k
    one (OwnerAnswered e y) k = k
    one _ k = refl
