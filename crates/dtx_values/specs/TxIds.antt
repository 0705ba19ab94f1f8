-- Transactions for good: their numbers and identifiers.
use Rattle.std.specs.Prelude.{ℕ, zero, suc, true, ◌+◌, ◌*◌}
use Rattle.dtx_values.specs.declared.number.TxNo.{TxNo}
use Rattle.dtx_values.specs.declared.tx_id.TxId.{TxId}

-- the number for good of transaction t of an epoch: in epoch 0, the epoch of a run by itself, it is t
abbrev pub number_in : ℕ → ℕ → ℕ
number_in zero t = t
number_in (suc n) t = 65536 * suc n + t

-- the number for good of a transaction
abbrev pub number_of : TxId → ℕ
number_of x = number_in x.epoch x.t.value

-- the identifier at the coordinator: the node 1 in the upper 64 bits, and the number in the lower
abbrev pub identifier_of_id : TxId → ℕ
identifier_of_id x = 18446744073709551616 + number_of x

-- transaction t of epoch 0
abbrev pub first_id : TxNo → TxId
first_id t = record { epoch = 0; t = t; in_range = λ i. true }
