-- What a transaction waits for, where a program gives its own calls and has no script: by the plans of the enlistments that these calls made.
use Rattle.std.specs.Prelude.{ℕ, Bool, ◌&&◌, ◌||◌, not, List}
use Rattle.dtx_values.specs.declared.entry.Entry.{Entry}
use Rattle.dtx_values.specs.declared.note.Plan.{Plan}
use Rattle.dtx_values.specs.Clones.{blocks}
use Rattle.dtx_model.specs.Words.{all_of, has}
use Rattle.dtx_model.specs.Entries.{clone_of}
use Rattle.dtx_model.specs.Outcome.{enlisted, is_complete}
use Rattle.dtx_model.specs.History.{is_silent}

-- there is something that it waits for: a clone that blocks and isn't complete, or an enlistment that stays silent by its plan
abbrev pub is_waiting_by : (ℕ → Plan) → List Entry → Bool
is_waiting_by p h = has (λ c. blocks c.1 && not (is_complete h c)) (all_of clone_of h) || has (λ x. is_silent (p x.0.value) h x.0.value) (enlisted h)
