use Rattle.std.proofs.Common.{ap, sym, ◌∙◌}
use Rattle.tx_world.specs.State.{TxState}
use Rattle.tx_world.specs.Stepping.{Does}
use Rattle.dtx_values.specs.declared.tx_id.TxId.{TxId}
use Rattle.dtx_model.specs.Steps.{Step}
use Rattle.tx_cells.proofs.Entered.{IsBefore, enters_here, may_be_entered, may_be_answered, still_kept}
use Rattle.tx_cells.proofs.cell.CellState.enter_over.Given.{Over}
use Rattle.tx_cells.proofs.cell.CellState.enter_over.Goals as goal
use Rattle.tx_cells.proofs.cell.CellState.enter_over.Goals.{In-Ok}

-- What the cell was when the call was found that is due.
before : (g : Over) (c : In-Ok g) → IsBefore g.N.Run.script g.N.Run.objects g.N.Run.honest c.self.inside.world c.self.inside.rows c.self.inside.out.items c.args.self.now c.args.a c.args.line c.in-Ok.call
before g c = record { view = c.self.view_is; kept = c.self.invariant.1; due = c.in-Ok.ensures.due.0; next = c.in-Ok.ensures.due.1 }

pub enter-requires-clause-enters : goal.enter-requires-clause-enters
enter-requires-clause-enters g c = may_be_entered _ _ _ _ _ _ _ _ _ _ (before g (goal.at.enter-requires-clause-enters g c).In-Ok)

pub enter-requires-clause-answers : goal.enter-requires-clause-answers
enter-requires-clause-answers g c = may_be_answered _ _ _ _ _ _ _ _ _ _ (before g (goal.at.enter-requires-clause-answers g c).In-Ok)

pub invariant_of-self-2 : goal.invariant_of-self-2
invariant_of-self-2 g c =
    let does = c.in_ok-answer.ensures.done in (
      c.self.invariant.0 ∙ sym (ap (λ (u : TxId). u.t) does.transaction),
      still_kept _ _ _ _ _ _ _ _ _ _ c.args.log.now.is_up c.enter.new.self c.advance.new.self (before g (goal.at.invariant_of-self-2 g c).In-Ok) does.transaction does.world c.advance.ensures.here c.advance.ensures.others,
    )

pub returns-clause-entered : goal.returns-clause-entered
returns-clause-entered g c = λ due.
    enters_here (λ (m : Step) (x y : TxState). Does g.D.Disk.faults m x c.args.log.now y c.args.log.now) _ _ _ _ _ _ _ _ _ _ c.enter.new.self c.advance.new.self c.in_ok-answer.answer (before g (goal.at.returns-clause-entered g c).In-Ok) c.in_ok-answer.ensures.answer
    c.in_ok-answer.ensures.done c.in_ok-answer.ensures.done.kept c.advance.ensures.here c.advance.ensures.others
