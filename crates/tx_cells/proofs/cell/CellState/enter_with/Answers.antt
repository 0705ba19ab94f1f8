use Rattle.std.proofs.Common.{◌≡◌, None, subst}
use Rattle.std.specs.Prelude.{IfOk}
use Rattle.coordinator_log.specs.State.{LogState}
use Rattle.tx_world.specs.Stepping.{Does}
use Rattle.tx_cells.specs.Entering.{Enters, next_of, put_off}
use Rattle.tx_cells.proofs.cell.CellState.enter_with.Goals as goal

pub returns-clause-entered : goal.returns-clause-entered
returns-clause-entered g c =
    let P : LogState g.row.D.Denot → Type 0 = λ l. put_off c.args.self.now.tx.world c.args.line (next_of c.args.a c.args.self.now) ≡ None
    → IfOk c.enter_over.result (λ r. Enters (λ m x y. Does g.D.Disk.faults m x l y l) c.args.a c.args.line r c.args.self.now c.enter_over.new.self) in
    subst P c.log.ensures.same c.enter_over.ensures.entered
