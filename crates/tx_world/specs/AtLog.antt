-- What a transaction keeps of the log, as its users see it, and what fits it.
use Rattle.std.specs.Prelude.{ℕ, ◌≡◌, List}
use Rattle.dtx_model.specs.Log.{CommitRecord}
use Rattle.dtx_values.specs.TxIds.{number_of}
use Rattle.dtx_model.specs.Promotes.{identifier_of}
use Rattle.coordinator_log.specs.Slots.{open_records}
use Rattle.coordinator_log.specs.State.{LogState}
pub use Rattle.world_parts.specs.AtLog.{Acts, Answered, AreFit, AreLogs, AtMostOne, HasKept, IsFit, IsOurs, Keeps, Kept, LeavesSlots, Tie, act_calls, kept_after, of_others}
use Rattle.tx_world.specs.State.{TxState}

abbrev pub id_of : TxState → ℕ
id_of x = identifier_of (number_of x.transaction)

abbrev pub Fits : TxState → List CommitRecord → Type 0
Fits x rs = IsFit (id_of x) x.ours x.unsure rs

abbrev pub KeepsLog : {D : Type 0} → (D → List ℕ → Type 0) → TxState → LogState D → TxState → LogState D → Type 0
KeepsLog image old from new to = Keeps image (id_of old) (Fits old) (Fits new) from to

-- the log has a record of the transaction, where it is up and the transaction keeps one
abbrev pub IsHad : {D : Type 0} → TxState → LogState D → Type 0
IsHad x log = HasKept (id_of x) x.ours log

-- What a call of a transaction leaves of the records that the log keeps in memory, whatever its disk is: those of each other transaction are the same, and its own is
-- there where it was.
pub record KeepsSlots {D : Type 0} (old : TxState) (from : LogState D) (new : TxState) (to : LogState D) : Type 0 where
  pub others : of_others (id_of old) (open_records to.slots) ≡ of_others (id_of old) (open_records from.slots)
  pub had : IsHad old from → IsHad new to

-- what a transaction keeps of the log
abbrev pub kept_of : TxState → Kept
kept_of x = record { ours = x.ours; unsure = x.unsure; life = x.life }
