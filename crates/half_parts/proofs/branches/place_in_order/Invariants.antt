use Rattle.std.proofs.Common.{◌≡◌, ◌++◌, take, drop}
use Rattle.dtx_values.specs.Table.{insert_by}
use Rattle.dtx_model.specs.declared.branch.Branch.{Branch}
use Rattle.dtx_model.specs.Observed.{branch_number}
use Rattle.half_parts.proofs.branches.place_in_order.Given as goal

abbrev pub invariant-loop-i : goal.invariant-loop-i
invariant-loop-i l = (x : Branch) → branch_number x ≡ l.n → insert_by branch_number x l.branches ≡ take l.i l.branches ++ insert_by branch_number x (drop l.i l.branches)
