use Rattle.std.proofs.Common.{sym, subst, ◌∙◌}
use Rattle.dtx_model.specs.Caused.{IsCallOf}
use Rattle.dtx_values.specs.TxIds.{number_of}
use Rattle.script_calls.proofs.Entered.{next_given}
use Rattle.tx_cells.specs.Cell.{Cell}
use Rattle.tx_cells.proofs.cell.CellState.next.Goals as goal

-- src/cell.rt:119:5
pub returns-clause-ours : goal.returns-clause-ours
returns-clause-ours g c d e =
    subst (λ (z : Cell). IsCallOf g.N.Run.script (number_of z.tx.transaction) d.line c.args.a d.call) c.self.view_is
    (next_given g.N.Run.script (number_of c.self.inside.world.transaction) c.self.inside.rows c.self.inside.world.world.calls c.args.a d c.self.invariant.1.in_order (sym c.next.ensures ∙ e))
