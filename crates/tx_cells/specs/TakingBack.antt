-- A reply that was out and is brought back.
use Rattle.std.specs.Prelude.{◌≡◌, ◌<◌, Bool, true, false, Result, Ok, IfOk}
use Rattle.dtx_values.specs.declared.note.Note.{Note}
use Rattle.dtx_values.specs.declared.note.Reply.{Reply}
use Rattle.dtx_values.specs.declared.number.EnlNo.{EnlNo}
use Rattle.dtx_model.specs.Steps.{Step, Replies}
use Rattle.world_laws.specs.Left.{steps_left}
use Rattle.turn_parts.specs.Marks.{is_due}
use Rattle.tx_world.specs.State.{TxState}
use Rattle.tx_cells.specs.Cell.{Cell}
use Rattle.tx_cells.specs.Turns.{unmarked, with_tx}
use Rattle.tx_cells.specs.declared.error.TurnError.{TurnError}

-- The reply of this enlistment to the note was taken back, with this result: its mark is off, and of the rest of the cell only the transaction may change. Where the reply is pending still, this was done of it, and the transaction
-- has fewer steps left; where it isn't, the transaction is the same.
pub record TakesBack (does : Step → TxState → TxState → Type 0) (e : EnlNo) (n : Note) (r : Reply) (result : Result Bool TurnError) (old new : Cell) : Type 0 where
  pub due : IfOk result (λ b. b ≡ is_due old.tx.world (e, n))
  pub done : result ≡ Ok true → does (Replies e r) old.tx new.tx
  pub nearer : result ≡ Ok true → steps_left new.tx.world < steps_left old.tx.world
  pub late : result ≡ Ok false → new.tx ≡ old.tx
  pub unmarked : new ≡ with_tx new.tx (unmarked (e, n) old)
