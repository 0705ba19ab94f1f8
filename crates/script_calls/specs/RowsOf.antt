-- The rows of many transactions.
use Rattle.std.specs.Prelude.{◌-◌, List, [], slice_index_or}
use Rattle.dtx_values.specs.declared.call.Call.{Call}
use Rattle.dtx_values.specs.declared.number.TxNo.{TxNo}
use Rattle.script_calls.specs.SeenRow.{SeenRow}

-- the rows of this transaction, of those of all by number
abbrev pub rows_of : TxNo → List (List (SeenRow Call)) → List (SeenRow Call)
rows_of t all = slice_index_or all (t.value - 1) []
