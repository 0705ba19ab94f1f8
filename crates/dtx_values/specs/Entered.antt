-- What a scope has of a transaction.
use Rattle.std.specs.Prelude.{Option, Some, None}
use Rattle.dtx_values.specs.declared.number.TxNo.{TxNo}
use Rattle.dtx_values.specs.declared.scope.Entered.{Entered}
use Rattle.dtx_values.specs.declared.scope.Entered.TheVariants.{Made, Joined, NoTx}

-- the transaction that the scope made or joined
abbrev pub transaction_in : Entered → Option TxNo
transaction_in (Made t) = Some t
transaction_in (Joined t) = Some t
transaction_in NoTx = None
