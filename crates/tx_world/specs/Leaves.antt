-- What a step or a call of a transaction leaves of the log and of what is kept there.
use Rattle.std.specs.Prelude.{ℕ, Bool, List, IsTrue}
use Rattle.coordinator_log.specs.State.{LogState}
pub use Rattle.world_parts.specs.Leaves.{IsLater, LeavesKept}
use Rattle.tx_world.specs.AtLog.{KeepsLog, KeepsSlots}
use Rattle.tx_world.specs.Prepared.{NamesPrepared}
use Rattle.tx_world.specs.State.{TxState}

-- What a step or a call of a transaction leaves of the log, and of the record that is kept: what it keeps of an honest log, and of the records that the log keeps in memory,
-- whatever its disk is; the record that is kept still names who said PREPARED; and the log is a later one.
pub record Leaves {D : Type 0} (honest : Bool) (image : D → List ℕ → Type 0) (faults : D → ℕ) (old : TxState) (from : LogState D) (new : TxState) (to : LogState D) : Type 0 where
  pub kept : IsTrue honest → KeepsLog image old from new to
  pub slots : KeepsSlots old from new to
  pub named : NamesPrepared old → NamesPrepared new
  pub later : IsLater faults from to
