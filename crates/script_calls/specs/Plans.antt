-- Tables of whose each enlistment and each clone of a script is.
use Rattle.std.specs.Prelude.{◌-◌, ◌≡◌, List, Option, None, slice_index_or}
use Rattle.dtx_values.specs.declared.number.CloneNo.{CloneNo}
use Rattle.dtx_values.specs.declared.number.EnlNo.{EnlNo}
use Rattle.dtx_values.specs.declared.number.TxNo.{TxNo}
use Rattle.dtx_values.specs.declared.script.Line.{Line}
use Rattle.dtx_model.specs.Calls.{transaction_of, transaction_with}

-- the tables say, at the place of each number, whose the script says that the enlistment or the clone is
pub record ArePlanned (s : List Line) (enlistments clones : List (Option TxNo)) : Type 0 where
  pub enlistment : (e : EnlNo) → slice_index_or enlistments (e.value - 1) None ≡ transaction_with s e.value
  pub clone : (c : CloneNo) → slice_index_or clones (c.value - 1) None ≡ transaction_of s c.value
