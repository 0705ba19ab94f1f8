use Rattle.dtx_model.specs.Steps.{Step}
use Rattle.tx_world.specs.OwnCalls.{DoesAlone}
use Rattle.tx_world.specs.State.{TxState}
use Rattle.tx_world.specs.Stepping.{Does}
use Rattle.tx_cells.proofs.Calling.{called}
use Rattle.tx_cells.proofs.EitherWay.{ok_over}
use Rattle.tx_cells.proofs.cell.CellState.enter.Goals as goal

pub returns-in-Some-clause-entered : goal.returns-in-Some-clause-entered
returns-in-Some-clause-entered g c = λ due.
    ok_over g.D.Disk.faults c.in-Some.log.now.log c.args.a c.args.line c.enter_with.result c.args.self.now c.enter_with.new.self (c.enter_with.ensures.entered due)

pub returns-in-Some-clause-called : goal.returns-in-Some-clause-called
returns-in-Some-clause-called g c =
    called (λ (m : Step) (x y : TxState). Does g.D.Disk.faults m x c.in-Some.log.now.log y c.in-Some.log.now.log) g.N.Run.script g.N.Run.objects g.N.Run.honest c.args.self.now c.enter_with.new.self c.args.a c.args.line c.enter_with.result c.is_kept.ensures.kept
    c.enter_with.ensures.entered c.enter_with.ensures.put_off

pub returns-in-None-clause-called : goal.returns-in-None-clause-called
returns-in-None-clause-called g c =
    called DoesAlone g.N.Run.script g.N.Run.objects g.N.Run.honest c.args.self.now c.enter_alone.new.self c.args.a c.args.line c.enter_alone.result c.is_kept.ensures.kept c.enter_alone.ensures.entered c.enter_alone.ensures.put_off
