use Rattle.std.proofs.Common.{◌≡◌, Some}
use Rattle.tx_cells.specs.Board.{Post}
use Rattle.tx_threads.proofs.awaiting.await_as.Given as goal

abbrev pub invariant-loop : goal.invariant-loop
invariant-loop g l = (l.note.cell ≡ l.fn.note.cell) × ((x : Post) → l.fn.note.known ≡ Some x → l.note.known ≡ Some x)
