use Rattle.std.proofs.Common.{◌≡◌, ◌+◌, ◌≤◌, take}
use Rattle.tx_cells.proofs.board.Posted.new.Given as goal

abbrev pub invariant-loop-i : goal.invariant-loop-i
invariant-loop-i g l = (l.copied.items ≡ take l.i l.history.items) × (l.n ≤ l.copied.room + l.i)
