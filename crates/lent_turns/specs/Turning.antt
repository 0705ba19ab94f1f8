-- What a turn came to.
use Rattle.std.specs.Prelude.{ℕ, ◌≡◌, ◌⊎◌, Bool, true, false, [], ◌++◌, ◌∷◌}
use Rattle.dtx_values.specs.declared.note.Note.{Note}
use Rattle.dtx_values.specs.declared.number.EnlNo.{EnlNo}
use Rattle.coordinator_log.specs.State.{LogState}
use Rattle.tx_world.specs.State.{TxState}
use Rattle.tx_cells.specs.Cell.{Cell}
use Rattle.tx_cells.specs.Entering.{IsKthDone}
use Rattle.tx_cells.specs.Ties.{IsCause}
use Rattle.tx_cells.specs.Turns.{turn_of, with_tx}
use Rattle.tx_cells.specs.declared.error.TurnError.{TurnError}
use Rattle.tx_cells.specs.declared.error.TurnError.TheVariants.{Memory}
use Rattle.tx_cells.specs.declared.turns.Turn.TheVariants.{Step}
use Rattle.lent_turns.specs.declared.holds.Came.{Came}
use Rattle.lent_turns.specs.declared.holds.Came.TheVariants.{Nothing}

-- something was done in the turn
abbrev pub is_turned : Came → Bool
is_turned Nothing = false
is_turned _ = true

-- the first pending step was done that isn't a reply that is out, and it was no reply
pub record HasStepped (old new : Cell) : Type 0 where
  pub place : ℕ
  pub first : turn_of old ≡ Step place
  pub done : IsKthDone place old.tx new.tx
  pub same : new ≡ with_tx new.tx old

-- Why a turn in the transaction isn't done that may take the log's lock: memory ran out, or there is a log with which the transaction doesn't tie, and the two are named.
abbrev pub MayFail : (D : Type 0) → TxState → TurnError → Type 0
MayFail D x e = (e ≡ Memory) ⊎ (log : LogState D) × IsCause x log e

-- the cell in which the reply of this enlistment to this note is out too
abbrev pub marked : EnlNo × Note → Cell → Cell
marked x c = record { tx = c.tx; rows = c.rows; out = c.out ++ x ∷ [] }
