-- What is called before the threads of a run, and what the threads came to.
use Rattle.std.specs.Prelude.{ℕ, ◌≡◌, Bool, true, false, is_some, nat_lt, List, [], ◌∷◌, Contains, Option, Some, None, Result, Err, if◌then◌else◌}
use Rattle.dtx_values.specs.declared.record.Differs.{Differs}
use Rattle.dtx_model.specs.Words.{has}
use Rattle.run_endings.specs.declared.stop.RunStop.{RunStop}
use Rattle.run_endings.specs.declared.stop.RunStop.TheVariants as Stop
use Rattle.thread_runs.specs.declared.contexts.ToDo.{ToDo}
use Rattle.tx_cells.specs.declared.error.TurnError.{TurnError}
use Rattle.tx_cells.specs.declared.error.TurnError.TheVariants.{Memory, Differs as TheyDiffer}

-- the two kept values that the thread found to differ
abbrev pub differing : Result (Unit {0}) TurnError → Option Differs
differing (Err (TheyDiffer d)) = Some d
differing _ = None

abbrev pub found_differing : Result (Unit {0}) TurnError → Bool
found_differing e = is_some (differing e)

-- memory ran out for the thread
abbrev pub lacked_memory : Result (Unit {0}) TurnError → Bool
lacked_memory (Err Memory) = true
lacked_memory _ = false

-- why the run stops, where the threads came to this: two kept values differ, which one of them found; or memory ran out for one, and none found any that differ
abbrev pub ComesFrom : List (Result (Unit {0}) TurnError) → RunStop → Type 0
ComesFrom ends (Stop.Differs d) = Contains ends (Err (TheyDiffer d))
ComesFrom ends Stop.Memory = (has lacked_memory ends ≡ true) × (has found_differing ends ≡ false)
ComesFrom ends Stop.Astray = ⊥

-- the first of the calls that are to be made, as far as they are of lines before this one
abbrev pub before_line : ℕ → List ToDo → List ToDo
before_line n [] = []
before_line n (d ∷ ds) = if nat_lt d.line n then d ∷ before_line n ds else []
