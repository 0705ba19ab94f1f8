-- A call that is entered at the log.
use Rattle.std.specs.Prelude.{ℕ, ◌-◌, ◌≡◌, ◌≢◌, ◌⊎◌, Bool, true, List, Option, Some, Result}
use Rattle.dtx_values.specs.declared.entry.Answer.TheVariants.{Fine}
use Rattle.dtx_values.specs.declared.number.ActorNo.{ActorNo}
use Rattle.dtx_values.specs.declared.script.Line.{Line}
use Rattle.dtx_model.specs.AtLog.{is_log_line}
use Rattle.dtx_model.specs.Words.{kth}
use Rattle.coordinator_log.specs.declared.refusal.LogRefusal.{LogRefusal}
use Rattle.script_calls.specs.declared.calls.LogCall.{LogCall}
use Rattle.script_calls.specs.declared.calls.LogCall.TheVariants.{Stop, Restart}
use Rattle.script_calls.specs.declared.rows.Due.{Due}
use Rattle.script_calls.specs.Rows.{further, next_in, row_at}
use Rattle.tx_cells.specs.LogAnswers.{stop_armed}
use Rattle.tx_cells.specs.LogCell.{LogCell}
use Rattle.tx_cells.specs.declared.turns.Turned.{Turned}
use Rattle.tx_cells.specs.declared.turns.Turned.TheVariants.{Did, Later, NotNext}
use Rattle.turn_parts.specs.Reopening.{IsReopened, restart_answer, restarted}

-- the actor's next call at the log
abbrev pub next_at_log : {D : Type 0} → ActorNo → LogCell D → Option (Due LogCall)
next_at_log a c = next_in (row_at a c.rows)

-- line n of the script stops the log, or opens it again, and is this actor's
abbrev pub IsLogLine : List Line → ActorNo → ℕ → Type 0
IsLogLine s a n = (l : Line) × (kth s n ≡ Some l) × (l.actor ≡ a) × (is_log_line l.body ≡ true)

-- what may come of the call of line n by this actor at the log, by the script alone: it was entered, and the line is a `stop` or a `restart`; or the actor's next call there is that of another such line, or none is left. None waits.
abbrev pub MayTurnAtLog : List Line → ActorNo → ℕ → Turned → Type 0
MayTurnAtLog s a n (Did x) = IsLogLine s a n
MayTurnAtLog s a n (NotNext m) = (m ≡ 0) ⊎ ((m ≢ n) × IsLogLine s a m)
MayTurnAtLog s a n Later = ⊥

-- the call was made at the log, by line n, and answered so
abbrev pub IsDoneAtLog : {D : Type 0} → (D → ℕ) → Bool → (D → List ℕ) → ℕ → ActorNo → LogCall → Turned → LogCell D → LogCell D → Type 0
IsDoneAtLog faults honest seen n a (Stop k i) x old new =
    (x ≡ Did Fine) × (new.past ≡ stop_armed n a k i old.past) × (new.log ≡ record old.log { armed = Some (record { passes = k - 1; image = i }) })
IsDoneAtLog faults honest seen n a Restart x old new =
    (found : Result ℕ LogRefusal) × (x ≡ Did (restart_answer found)) × (new.past ≡ restarted n a old.log.is_up found old.past) × IsReopened faults honest seen found old.log new.log

-- The actor's next call at the log, that of line n, was entered, and answered so.
pub record EntersLog {D : Type 0} (faults : D → ℕ) (honest : Bool) (seen : D → List ℕ) (a : ActorNo) (n : ℕ) (x : Turned) (old new : LogCell D) : Type 0 where
  pub call : LogCall
  pub next : next_at_log a old ≡ Some (record { line = n; call = call })
  pub done : IsDoneAtLog faults honest seen n a call x old new
  pub row : row_at a new.rows ≡ further (row_at a old.rows)
  pub others : (b : ActorNo) → b ≢ a → row_at b new.rows ≡ row_at b old.rows
