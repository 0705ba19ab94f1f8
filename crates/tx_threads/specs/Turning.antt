-- The words for a call that waits, and for one that moves the log.
use Rattle.std.specs.Prelude.{ℕ, ◌==◌, ◌&&◌, ◌||◌, not, Bool, true, false, List, Option, Some, None}
use Rattle.dtx_values.specs.declared.call.Call.{Call}
use Rattle.dtx_values.specs.declared.entry.Entry.{Entry}
use Rattle.dtx_values.specs.declared.entry.Entry.TheVariants.{Answered}
use Rattle.dtx_values.specs.declared.script.Body.{Body}
use Rattle.dtx_values.specs.declared.script.Body.TheVariants.{Await}
use Rattle.dtx_values.specs.declared.script.Line.{Line}
use Rattle.dtx_model.specs.Outcome.{is_empty}
use Rattle.dtx_model.specs.Steps.{pending}
use Rattle.dtx_model.specs.Words.{kth}
use Rattle.coordinator_log.specs.State.{LogState}
use Rattle.script_calls.specs.declared.rows.Due.{Due}
use Rattle.tx_cells.specs.Cell.{Cell}
pub use Rattle.lent_turns.specs.Turning.{HasStepped, MayFail, is_turned, marked}

-- the log was stopped or opened between the two
abbrev pub is_other : Bool → Bool → Bool
is_other true b = not b
is_other false b = b

abbrev pub is_moved : {D : Type 0} → LogState D → LogState D → Bool
is_moved x y = is_other x.is_up y.is_up || not (x.life == y.life)

-- the entry answers the call of line n
abbrev pub is_answer_to : ℕ → Entry → Bool
is_answer_to n (Answered m x) = m == n
is_answer_to n _ = false

-- nothing is pending in the transaction, and no reply is out
abbrev pub is_quiet : Cell → Bool
is_quiet c = is_empty (pending c.tx.world) && is_empty c.out

-- the line is an await
abbrev pub is_await_line : Body → Bool
is_await_line (Await t) = true
is_await_line _ = false

abbrev pub is_await : Option Line → Bool
is_await (Some l) = is_await_line l.body
is_await None = false

abbrev pub is_await_at : List Line → ℕ → Bool
is_await_at s n = is_await (kth s n)

-- the next call is that of line n
abbrev pub is_of_line : ℕ → Option (Due Call) → Bool
is_of_line n (Some d) = d.line == n
is_of_line n None = false
