-- What is said of the calls that were answered `wait`: each gets its answer later.
use Rattle.std.specs.Prelude.{ℕ, ◌==◌, ◌≡◌, Bool, true, false, ◌&&◌, ◌||◌, not, List, Option, Some, None}
use Rattle.dtx_values.specs.declared.entry.Answer.TheVariants.{Wait}
use Rattle.dtx_values.specs.declared.entry.Entry.{Entry}
use Rattle.dtx_values.specs.declared.entry.Entry.TheVariants.{Called, Answered}
use Rattle.dtx_values.specs.declared.script.Line.{Line}
use Rattle.dtx_model.specs.Words.{has, each, all_of}
use Rattle.dtx_model.specs.Outcome.{enlisted}
use Rattle.dtx_model.specs.Caused.{Settled, plans_of}
use Rattle.dtx_model.specs.History.{is_silent_to_promote, is_still_lost}

-- the line whose call was answered `wait`
abbrev pub waiting_line : Entry → Option ℕ
waiting_line (Called n a Wait) = Some n
waiting_line _ = None

-- the answer of the call of this line, which had to wait
abbrev pub is_answer_of : ℕ → Entry → Bool
is_answer_of n (Answered m x) = n == m
is_answer_of n _ = false

-- where the history is settled, each call that was answered `wait` got its answer, or an enlistment that was asked to promote, and isn't lost, stays silent
abbrev pub AreCallsAnswered : List Line → List Entry → Type 0
AreCallsAnswered s h =
    Settled s h → (each (λ n. has (is_answer_of n) h) (all_of waiting_line h) || has (λ x. not (is_still_lost x.0.value h) && is_silent_to_promote (plans_of s x.0.value) h x.0.value) (enlisted h)) ≡ true
