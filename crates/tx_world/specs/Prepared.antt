-- Who said PREPARED is in the record.
use Rattle.dtx_model.specs.World.{core}
use Rattle.dtx_values.specs.TxIds.{number_of}
pub use Rattle.world_parts.specs.Prepared.{Names}
use Rattle.tx_world.specs.State.{TxState}

-- The record that a transaction keeps names the enlistments that said PREPARED, and no others.
abbrev pub NamesPrepared : TxState → Type 0
NamesPrepared x = Names (number_of x.transaction) x.ours (core x.world)
