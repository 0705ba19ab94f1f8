use Rattle.std.proofs.Common.{◌≡◌, ◌++◌, take, drop}
use Rattle.dtx_values.specs.Table.{insert_by}
use Rattle.dtx_model.specs.Waiting.{Waiter, waiter_line}
use Rattle.half_parts.proofs.waits.place_in_order.Given as goal

abbrev pub invariant-loop-i : goal.invariant-loop-i
invariant-loop-i l = (x : Waiter) → waiter_line x ≡ l.n → insert_by waiter_line x l.waits ≡ take l.i l.waits ++ insert_by waiter_line x (drop l.i l.waits)
