use Rattle.std.proofs.Common.{◌∙◌, ap}
use Rattle.dtx_values.specs.TxIds.{first_id}
use Rattle.tx_cells.specs.Cell.{Cell}
use Rattle.tx_cells.proofs.Kept.{of_first}
use Rattle.tx_cells.proofs.cell.CellState.t.Goals as goal

-- src/cell.rt
pub returns-clause-first : goal.returns-clause-first
returns-clause-first g c =
    ap first_id c.self.invariant.0 ∙ (of_first c.self.inside.world.transaction c.self.invariant.1.first ∙ ap (λ (x : Cell). x.tx.transaction) c.self.view_is)
