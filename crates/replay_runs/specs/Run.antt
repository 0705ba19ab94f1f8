-- What a replay promises of its trace.
use Rattle.std.specs.Prelude.{ℕ, ◌≡◌, ◌≤◌, Bool, true, List, []}
use Rattle.dtx_values.specs.declared.script.Line.{Line}
use Rattle.dtx_model.specs.Caused.{Managers, Of}
use Rattle.dtx_model.specs.Words.{past_of}
use Rattle.dtx_model.specs.History.{IsReplay}
use Rattle.dtx_model.specs.Traces.{Placed}
use Rattle.turn_parts.specs.Runs.{IsRise, IsRunHistoryBy}
use Rattle.replay_runs.specs.Exact.{faults_made, stops_exactly}

-- T is a run of the script in the order of a replay, over a disk that is honest and whose log had no record, or not, and whose count of faults was `from` before and is `to` now: it is a settled history of the script in which those that `o`
-- names have an object. A stop that is armed is met exactly where its device call is reached; and the count rose by each entry that a fault made.
pub record IsRunOfBy (s : List Line) (o : Of) (from to : ℕ) (is_honest : Bool) (T : List Placed) : Type 0 where
  pub rise : ℕ
  pub risen : IsRise from to rise
  pub replay : IsReplay s rise is_honest T
  pub history : IsRunHistoryBy s o rise T
  pub exact : stops_exactly (past_of T) ≡ true
  pub broken : faults_made [] (past_of T) ≤ rise

-- the same, where the first k managers have an object each
abbrev pub IsRunOf : List Line → ℕ → ℕ → ℕ → Bool → List Placed → Type 0
IsRunOf s k from to is_honest T = IsRunOfBy s (Managers k) from to is_honest T
