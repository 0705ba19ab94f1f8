-- Whether what a transaction keeps as logged ties with the log that a call is lent.
use Rattle.std.specs.Prelude.{◌≡◌, ◌≢◌, Option, IsTrue}
use Rattle.std.specs.Option.{option_map}
use Rattle.dtx_values.specs.declared.record.Differs.{Differs}
use Rattle.dtx_values.specs.declared.record.Differs.TheVariants.{Cell as InCell, Log as InLog}
use Rattle.dtx_values.specs.declared.record.LogRecord.{LogRecord}
use Rattle.dtx_model.specs.Log.{first_of, record_of}
use Rattle.coordinator_log.specs.Slots.{open_records}
use Rattle.coordinator_log.specs.State.{LogState}
use Rattle.tx_world.specs.AtLog.{Tie, id_of}
use Rattle.tx_world.specs.State.{TxState}
use Rattle.tx_cells.specs.declared.error.TurnError.{TurnError}
use Rattle.tx_cells.specs.declared.error.TurnError.TheVariants.{Memory, Differs as TheyDiffer}

-- what the transaction keeps as logged and what the log has of it tie, where the log is up
abbrev pub TiesWith : {D : Type 0} → TxState → LogState D → Type 0
TiesWith x log = IsTrue log.is_up → Tie x.ours x.unsure (first_of (id_of x) (open_records log.slots))

-- The two don't tie, and these are the two.
pub record DiffersFrom {D : Type 0} (x : TxState) (log : LogState D) (d : Differs) : Type 0 where
  pub ours : Option LogRecord
  pub found : Option LogRecord
  pub is : d ≡ InLog x.transaction.t ours found
  pub kept : option_map record_of ours ≡ x.ours
  pub there : option_map record_of found ≡ first_of (id_of x) (open_records log.slots)
  pub untied : TiesWith x log → ⊥

-- Why a turn isn't done that is lent this log: memory ran out, and the two tie; or they don't tie.
abbrev pub IsCause : {D : Type 0} → TxState → LogState D → TurnError → Type 0
IsCause x log Memory = TiesWith x log
IsCause x log (TheyDiffer d) = DiffersFrom x log d

-- the two kept values that are named differ: the transaction that is wanted and the one that is found in its cell, or the record that a transaction keeps as logged and the one that the log has
abbrev pub DoDiffer : Differs → Type 0
DoDiffer (InCell t u) = t ≢ u
DoDiffer (InLog t ours found) = ours ≢ found

-- a turn isn't done since memory ran out, or since two kept values differ, which are named
abbrev pub HasCause : TurnError → Type 0
HasCause Memory = Unit {0}
HasCause (TheyDiffer d) = DoDiffer d
