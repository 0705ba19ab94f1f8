-- What holds of each world.
use Rattle.std.specs.Prelude.{◌≡◌, true}
use Rattle.dtx_values.specs.TxIds.{number_of}
use Rattle.dtx_values.specs.declared.tx_id.TxId.{TxId}
use Rattle.dtx_model.specs.Promotes.{identifier_of}
use Rattle.dtx_model.specs.Tied.{tied}
use Rattle.dtx_model.specs.World.{World, half, core}
use Rattle.dtx_model.specs.Caused.{AreMadeOnce, IsIn, IsOwnRun}
use Rattle.local_half.specs.Half.{Known}
use Rattle.coordinator_core.specs.Kept.{Kept as CoreKept}
pub use Rattle.world_parts.specs.Stopping.{stop_if, stopped_if}
use Rattle.tx_world.specs.AtLog.{IsOurs, Kept as LogKept}
use Rattle.tx_world.specs.Tried.{IsTried}

-- The world is what its own calls, and the steps after them, made; of these calls no two make the same enlistment or the same clone; and its halves know what its
-- calls and its history say.
pub record Kept (t : TxId) (w : World) (h : Known) (k : CoreKept) : Type 0 where
  pub ran : IsOwnRun (number_of t) w
  pub once : AreMadeOnce (IsIn w.calls)
  pub half : h ≡ record { transaction = t; half = half w }
  pub core : k ≡ record { transaction = t; state = core w }

-- This holds of the world, and what is kept of the log is what its coordinator knows, and what its history says, where each restart of that found what may be found.
pub record Whole (t : TxId) (w : World) (h : Known) (k : CoreKept) (x : LogKept) : Type 0 where
  pub kept : Kept t w h k
  pub ours : IsOurs (identifier_of (number_of k.transaction)) k.state x
  pub tried : tied w.past ≡ true → IsTried w.past x
