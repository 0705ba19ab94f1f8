-- What a call at the log is answered, and what it writes there.
use Rattle.std.specs.Prelude.{ℕ, ◌==◌, Option, Some, None, if◌then◌else◌}
use Rattle.script_calls.specs.declared.calls.LogCall.{LogCall}
use Rattle.script_calls.specs.declared.rows.Due.{Due}
pub use Rattle.turn_parts.specs.Reopening.{is_no_log_answer, stop_armed}
use Rattle.tx_cells.specs.declared.turns.Turned.{Turned}
use Rattle.tx_cells.specs.declared.turns.Turned.TheVariants.{NotNext}

-- what is said to line n instead of entering it, where this is the actor's next call at the log: that the next is another line's, or none is left. None where it is entered.
abbrev pub put_off_at_log : ℕ → Option (Due LogCall) → Option Turned
put_off_at_log n (Some d) = if d.line == n then None else Some (NotNext d.line)
put_off_at_log n None = Some (NotNext 0)
