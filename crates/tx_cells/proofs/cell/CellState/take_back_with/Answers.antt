use Rattle.std.proofs.Common.{subst}
use Rattle.coordinator_log.specs.State.{LogState}
use Rattle.tx_world.specs.Stepping.{Does}
use Rattle.tx_cells.specs.TakingBack.{TakesBack}
use Rattle.tx_cells.proofs.cell.CellState.take_back_with.Goals as goal

pub returns-clause-taken : goal.returns-clause-taken
returns-clause-taken g c =
    let P : LogState g.row.D.Denot → Type 0 = λ l. TakesBack (λ m x y. Does g.D.Disk.faults m x l y l) c.args.e c.args.n c.args.r c.take_back_over.result c.args.self.now c.take_back_over.new.self in
    subst P c.log.ensures.same c.take_back_over.ensures.taken
