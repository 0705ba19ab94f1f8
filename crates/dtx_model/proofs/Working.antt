-- What is said of each history that is worked out.
use Rattle.std.proofs.Common.{◌≡◌, ℕ, Bool, true, List, [], ◌∷◌, Option, Some, None}
use Rattle.dtx_values.specs.declared.entry.Answer.{Answer}
use Rattle.dtx_values.specs.declared.entry.Answer.TheVariants.{Did}
use Rattle.dtx_values.specs.declared.entry.Entry.{Entry}
use Rattle.dtx_values.specs.declared.entry.Entry.TheVariants.{Called}
use Rattle.dtx_values.specs.declared.script.Line.{Line}
use Rattle.dtx_model.specs.Words.{all_of, always, past_of, put}
use Rattle.dtx_model.specs.Outcome.{agree, justified}
use Rattle.dtx_model.specs.Promotes.{promotes}
use Rattle.dtx_model.specs.Wires.{WireRun}
use Rattle.dtx_model.specs.Learned.{Learned, are_answered, is_decided_there}
use Rattle.dtx_model.specs.Waiting.{EnteredCall}
use Rattle.dtx_model.specs.World.{World, answer_at}
use Rattle.dtx_model.specs.Steps.{LogAnswer}
use Rattle.dtx_model.specs.Caused.{Settled, entered_at, is_as_planned, plans_of, world_of}
use Rattle.dtx_model.specs.History.{nobody}
use Rattle.dtx_model.proofs.Playing.{played}

-- the lines that call, with what each is answered in the history
abbrev pub answer_of : Entry → Option (ℕ × Answer)
answer_of (Called n a x) = Some (n, x)
answer_of _ = None

-- and with what its call is answered there: a `do` counts its steps
abbrev pub count_of : Entry → ℕ
count_of (Called n a (Did m)) = m
count_of _ = 0

abbrev pub answer_by : ℕ → World → ℕ → Option EnteredCall → Option (ℕ × Answer)
answer_by t w m (Some k) = Some (k.line, answer_at t w k.call m)
answer_by t w m None = None

abbrev pub answers_by : List Line → ℕ → List Entry → List (ℕ × Answer)
answers_by s t [] = []
answers_by s t (x ∷ past) = put (answer_by t (world_of s past) (count_of x) (entered_at s x)) (answers_by s t past)

-- The script's replay makes this history of transaction 1, oldest entry first, where the log answers its appends and frees so and its restarts find this. At its
-- end nothing is pending; each call is answered as it is to be; each enlistment replied as its call plans; the promotion went in order; what crossed is what was
-- sent; all that was told is just and agrees; and who came back was told, and the truth.
abbrev pub IsWorked : List Line → List LogAnswer → List Bool → List Entry → Type 0
IsWorked s answers finds h =
    (played s 1 answers finds ≡ Some (past_of h)) × Settled s (past_of h) × (all_of answer_of (past_of h) ≡ answers_by s 1 (past_of h))
    × (always (is_as_planned (plans_of s) nobody) (past_of h) ≡ true) × (promotes s 1 (past_of h) ≡ true) × WireRun (past_of h)
    × (justified (past_of h) ≡ true) × (agree (past_of h) ≡ true) × Learned (past_of h) × (are_answered (is_decided_there (past_of h)) [] (past_of h) ≡ true)
