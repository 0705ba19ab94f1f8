use Rattle.std.proofs.Common.{refl}
use Rattle.dtx_values.specs.TxIds.{first_id}
use Rattle.dtx_values.proofs.Ids.{same_id}
use Rattle.dtx_values.proofs.tx_id.TxId.first.Goals as goal

-- src/tx_id/naming.rt
pub returns : goal.returns
returns c = same_id _ (first_id c.args.t) refl
