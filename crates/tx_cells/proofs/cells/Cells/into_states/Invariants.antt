use Rattle.std.proofs.Common.{◌≡◌, length}
use Rattle.tx_cells.proofs.cells.Cells.into_states.Given as goal

abbrev pub invariant-loop-cell : goal.invariant-loop-cell
invariant-loop-cell g l = length l.states.items ≡ length l.yielded
