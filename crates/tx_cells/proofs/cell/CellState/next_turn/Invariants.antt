use Rattle.std.proofs.Common.{◌≡◌, ◌+◌, drop}
use Rattle.dtx_model.specs.Steps.{pending}
use Rattle.tx_cells.specs.Turns.{first_turn, turn_of}
use Rattle.tx_cells.proofs.cell.CellState.next_turn.Given as goal

abbrev pub invariant-loop-k : goal.invariant-loop-k
invariant-loop-k g l = first_turn l.self.tx.world l.self.out (l.k + 1) (drop l.k (pending l.self.tx.world)) ≡ turn_of l.self
