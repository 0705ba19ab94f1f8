use Rattle.std.proofs.Common.{◌≡◌, drop}
use Rattle.dtx_values.specs.Owners.{lasting, only}
use Rattle.enlist_table.proofs.Only.{only_after}
use Rattle.enlist_table.proofs.table.EnlistTable.owner.Given as goal

abbrev pub invariant-loop-x : goal.invariant-loop-x
invariant-loop-x l = only_after l.owner (lasting (drop l.x-index l.x-items)) ≡ only (lasting l.x-items)
