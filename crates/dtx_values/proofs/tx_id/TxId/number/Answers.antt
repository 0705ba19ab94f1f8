use Rattle.std.proofs.Common.{◌∙◌}
use Rattle.dtx_values.proofs.Ids.{number_made, same_id}
use Rattle.dtx_values.proofs.tx_id.TxId.number.Goals as goal

-- src/tx_id/naming.rt
pub returns-clause-own : goal.returns-clause-own
returns-clause-own c = λ x e. same_id x c.args.self (e ∙ number_made c.args.self c.from.result c.from-2.result c.from.ensures (c.from-2.ensures ∙ c.get.ensures.value))
