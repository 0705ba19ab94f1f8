-- That what is said holds of the trace. A trace stands oldest first here, and its entries are numbered from 1.
use Rattle.std.specs.Prelude.{ℕ, ◌<◌, ◌≤◌, ◌-◌, ◌==◌, Bool, true, false, ◌&&◌, not, List, ◌∷◌, Some, None, ◌≡◌, ⊤, filter, length, take, if◌then◌else◌}
use Rattle.dtx_values.specs.Clones.{blocks}
use Rattle.dtx_values.specs.declared.entry.Entry.{Entry}
use Rattle.dtx_values.specs.declared.script.Line.{Line}
use Rattle.dtx_values.specs.declared.words.Outcome.TheVariants.{Aborted as AbortedWord, Committed as CommittedWord, InDoubt as InDoubtWord}
use Rattle.dtx_model.specs.Caused.{plans_of}
use Rattle.dtx_model.specs.Entries.{client_told_of, clone_of, is_commit}
use Rattle.dtx_model.specs.History.{is_silent, is_waiting}
use Rattle.dtx_model.specs.Outcome.{doubt, evidence, is_complete, is_veto, justified, vetoed}
use Rattle.dtx_model.specs.Traces.{Placed, history}
use Rattle.dtx_model.specs.Words.{all_of, has, latest, past_of}
use Rattle.outcome_reasons.specs.declared.said.OpenReason.{OpenReason}
use Rattle.outcome_reasons.specs.declared.said.OpenReason.TheVariants.{NotAsked, OpenClone, Silent, Unsettled}
use Rattle.outcome_reasons.specs.declared.said.Why.{Why}
use Rattle.outcome_reasons.specs.declared.said.Why.TheVariants.{Aborted, Committed, InDoubt, Open, Unjust}
use Rattle.outcome_reasons.specs.Whys.{is_began}

-- the history of transaction t after the first n entries of the trace
abbrev pub after : ℕ → ℕ → List Placed → List Entry
after t n T = history t (past_of (take n T))

-- the whole history of transaction t
abbrev pub whole : ℕ → List Placed → List Entry
whole t T = history t (past_of T)

-- it stands after entry n, and after no earlier entry
pub record IsFirst (test : List Entry → Bool) (t n : ℕ) (T : List Placed) : Type 0 where
  pub stands : test (after t n T) ≡ true
  pub never : (k : ℕ) → k < n → test (after t k T) ≡ false

-- entry n is of transaction t, and a veto before which no evidence stands, and the first such
pub record IsVetoAt (t n : ℕ) (T : List Placed) : Type 0 where
  pub entry : Entry
  pub here : after t n T ≡ entry ∷ after t (n - 1) T
  pub veto : is_veto (after t (n - 1) T) entry ≡ true
  pub unvetoed : vetoed (after t (n - 1) T) ≡ false
  pub unevident : evidence (after t (n - 1) T) ≡ false

-- what the transaction of history h waits for: for nothing where commit wasn't asked; for this clone, which blocks and isn't complete; for this enlistment, which
-- stays silent; and for nothing of these where it isn't settled
abbrev pub IsExcuse : List Line → List Entry → OpenReason → Type 0
IsExcuse s h NotAsked = has is_commit h ≡ false
IsExcuse s h (OpenClone c) = has (λ d. c.value == d.0.value && (blocks d.1 && not (is_complete h d))) (all_of clone_of h) ≡ true
IsExcuse s h (Silent e n m) = is_silent (plans_of s e.value) h e.value ≡ true
IsExcuse s h Unsettled = (has is_commit h ≡ true) × (is_waiting s h ≡ false)

-- what is said of transaction t holds. Committed and in doubt name the first entry after which there is evidence or doubt, and aborted the first veto. What nothing
-- justifies is said of a history that isn't justified.
abbrev pub Holds : List Line → List Placed → ℕ → Why → Type 0
Holds s T t (Committed r n) = (latest client_told_of (whole t T) ≡ Some CommittedWord) × IsFirst evidence t n T
Holds s T t (Aborted r m) = (latest client_told_of (whole t T) ≡ Some AbortedWord) × IsVetoAt t m.entry T
Holds s T t (InDoubt r n) = (latest client_told_of (whole t T) ≡ Some InDoubtWord) × IsFirst doubt t n T
Holds s T t (Unjust o) = (latest client_told_of (whole t T) ≡ Some o) × (justified (whole t T) ≡ false)
Holds s T t (Open r) = (latest client_told_of (whole t T) ≡ None) × IsExcuse s (whole t T) r
Holds s T t _ = ⊤

-- how the transaction ended, or that it didn't
abbrev pub is_ending : Why → Bool
is_ending (Committed r n) = true
is_ending (Aborted r m) = true
is_ending (InDoubt r n) = true
is_ending (Unjust o) = true
is_ending (Open r) = true
is_ending _ = false

abbrev pub is_ending_of : ℕ → ℕ × Why → Bool
is_ending_of t x = t == x.0 && is_ending x.1

-- one ending is said of each transaction that was begun, and none of another
abbrev pub HaveOneEnding : List Placed → List (ℕ × Why) → Type 0
HaveOneEnding T ws = (t : ℕ) → 0 < t → t ≤ 256 → length (filter (is_ending_of t) ws) ≡ (if has is_began (whole t T) then 1 else 0)
