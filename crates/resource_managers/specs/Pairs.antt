-- Enlistments by their numbers.
use Rattle.std.specs.Prelude.{ℕ}
use Rattle.dtx_values.specs.TxIds.{number_of}
use Rattle.dtx_values.specs.declared.number.EnlNo.{EnlNo}
use Rattle.dtx_values.specs.declared.tx_id.TxId.{TxId}
use Rattle.resource_managers.specs.declared.enlistment.Enlistment.{Enlistment}

-- the enlistment of transaction t that has this number there
abbrev pub enlistment : TxId → EnlNo → Enlistment
enlistment t e = record { transaction = t; number = e }

-- an enlistment by its numbers: that of its transaction for good, and its own there
abbrev pub Pair : Type 0
Pair = ℕ × ℕ

abbrev pub pair_of : Enlistment → Pair
pair_of e = (number_of e.transaction, e.number.value)
