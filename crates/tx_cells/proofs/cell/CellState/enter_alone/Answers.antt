use Rattle.std.proofs.Common.{ap, sym, ◌∙◌, true}
use Rattle.dtx_values.specs.declared.tx_id.TxId.{TxId}
use Rattle.dtx_model.specs.Steps.{Calls}
use Rattle.dtx_values.specs.TxIds.{number_of}
use Rattle.tx_world.specs.OwnCalls.{DoesAlone}
use Rattle.tx_cells.proofs.Entered.{IsBefore, enters_here, may_be_answered, may_be_entered, needs_no_log, still_kept}
use Rattle.tx_cells.proofs.Kept.{turned_silent}
use Rattle.tx_cells.proofs.cell.CellState.enter_alone.Given.{Over}
use Rattle.tx_cells.proofs.cell.CellState.enter_alone.Goals as goal
use Rattle.tx_cells.proofs.cell.CellState.enter_alone.Goals.{In-Ok}

-- What the cell was when the call was found that is due.
before : (g : Over) (c : In-Ok g) → IsBefore g.N.Run.script g.N.Run.objects g.N.Run.honest c.self.inside.world c.self.inside.rows c.self.inside.out.items c.args.self.now c.args.a c.args.line c.in-Ok.call
before g c = record { view = c.self.view_is; kept = c.self.invariant.1; due = c.in-Ok.ensures.due.0; next = c.in-Ok.ensures.due.1 }

pub call_alone-requires-clause-enters : goal.call_alone-requires-clause-enters
call_alone-requires-clause-enters g c = may_be_entered _ _ _ _ _ _ _ _ _ _ (before g (goal.at.call_alone-requires-clause-enters g c).In-Ok)

pub call_alone-requires-clause-alone : goal.call_alone-requires-clause-alone
call_alone-requires-clause-alone g c = needs_no_log _ _ _ _ _ _ _ _ _ _ (before g (goal.at.call_alone-requires-clause-alone g c).In-Ok) c.requires.alone

pub call_alone-requires-clause-answers : goal.call_alone-requires-clause-answers
call_alone-requires-clause-answers g c = may_be_answered _ _ _ _ _ _ _ _ _ _ (before g (goal.at.call_alone-requires-clause-answers g c).In-Ok)

pub invariant_of-self-2 : goal.invariant_of-self-2
invariant_of-self-2 g c =
    let x = c.self.inside.world in
    let does = c.in_ok-answer.ensures.done in (
      c.self.invariant.0 ∙ sym (ap (λ (u : TxId). u.t) does.transaction),
      still_kept _ _ _ _ _ _ _ _ _ _ true c.call_alone.new.self c.advance.new.self (before g (goal.at.invariant_of-self-2 g c).In-Ok) does.transaction
          (does.world ∙ turned_silent (number_of x.transaction) x.world (Calls c.args.line c.args.a c.in-Ok.call 0)) c.advance.ensures.here c.advance.ensures.others,
    )

pub returns-clause-entered : goal.returns-clause-entered
returns-clause-entered g c = λ due.
    enters_here DoesAlone _ _ _ _ _ _ _ _ _ _ c.call_alone.new.self c.advance.new.self c.in_ok-answer.answer (before g (goal.at.returns-clause-entered g c).In-Ok) c.in_ok-answer.ensures.answer c.in_ok-answer.ensures.done c.in_ok-answer.ensures.done.kept
    c.advance.ensures.here c.advance.ensures.others
