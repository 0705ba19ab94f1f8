-- What may be done next in a transaction, the replies that are out left aside.
use Rattle.std.specs.Prelude.{ℕ, ◌+◌, Bool, false, List, [], ◌∷◌, Option, Some, None, if◌then◌else◌}
use Rattle.dtx_values.specs.declared.note.Note.{Note}
use Rattle.dtx_values.specs.declared.number.EnlNo.{EnlNo}
use Rattle.dtx_model.specs.World.{World}
use Rattle.dtx_model.specs.Steps.{StepName, pending}
use Rattle.tx_world.specs.State.{TxState}
use Rattle.tx_world.specs.Stepping.{reply_in}
pub use Rattle.turn_parts.specs.Marks.{is_due, is_out, is_that, is_to, same_note, taken_off}
use Rattle.tx_cells.specs.Cell.{Cell}
use Rattle.tx_cells.specs.declared.turns.Turn.{Turn}
use Rattle.tx_cells.specs.declared.turns.Turn.TheVariants.{Step, Ask, Nothing}

-- a pending step at place k, and what comes where it is a reply that is out
abbrev pub turn_or : List (EnlNo × Note) → ℕ → Option (EnlNo × Note) → Turn → Turn
turn_or out k (Some x) rest = if is_out out x then rest else Ask x.0 x.1
turn_or out k None rest = Step k

-- the first of these pending steps, the first of which is at place k, that isn't a reply that is out: to ask for it where it is a reply, else its place
abbrev pub first_turn : World → List (EnlNo × Note) → ℕ → List StepName → Turn
first_turn w out k [] = Nothing
first_turn w out k (m ∷ ms) = turn_or out k (reply_in w (Some m)) (first_turn w out (k + 1) ms)

abbrev pub turn_of : Cell → Turn
turn_of c = first_turn c.tx.world c.out 1 (pending c.tx.world)

-- a pending step that is a reply that is out
abbrev pub is_out_there : List (EnlNo × Note) → Option (EnlNo × Note) → Bool
is_out_there out (Some x) = is_out out x
is_out_there out None = false

-- The cell with another world of its transaction; the calls of its actors and the replies that are out are the same.
abbrev pub with_tx : TxState → Cell → Cell
with_tx x c = record { tx = x; rows = c.rows; out = c.out }

-- the cell in which the reply of this enlistment to this note isn't out any more
abbrev pub unmarked : EnlNo × Note → Cell → Cell
unmarked x c = record { tx = c.tx; rows = c.rows; out = taken_off x c.out }
