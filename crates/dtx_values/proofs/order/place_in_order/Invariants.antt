use Rattle.std.proofs.Common.{◌≡◌, ◌++◌, take, drop}
use Rattle.dtx_values.specs.Table.{insert_by}
use Rattle.dtx_values.proofs.order.place_in_order.Given as goal

abbrev pub invariant-loop-i : goal.invariant-loop-i
invariant-loop-i g l = (x : g.row.T.Denot) → g.T.Numbered.key x ≡ l.n → insert_by g.T.Numbered.key x l.items ≡ take l.i l.items ++ insert_by g.T.Numbered.key x (drop l.i l.items)
