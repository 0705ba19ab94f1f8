use Rattle.dtx_values.specs.declared.tx_id.TxId.{TxId}
use Rattle.std.proofs.Common.{sym, ap, ◌∙◌}
use Rattle.std.specs.Prelude.{Ok}
use Rattle.tx_cells.proofs.Stepped.{kept_over}
use Rattle.tx_cells.proofs.cell.CellState.do_step_over.Goals as goal

pub invariant_of-self-2 : goal.invariant_of-self-2
invariant_of-self-2 g c =
    let does = c.step.ensures.some (c.in_ok-step.was ∙ ap Ok c.if-not-branch.false) in (
      c.self.invariant.0 ∙ sym (ap (λ (u : TxId). u.t) does.done.transaction),
      kept_over g.D.Disk.faults c.args.log.now c.step.new.log g.N.Run.script g.N.Run.objects g.N.Run.honest c.self.inside.world c.step.new.self c.self.inside.rows c.args.k c.self.invariant.1 c.is_own_run.ensures.run
          (λ is. c.requires.own (c.requires.honest ∙ is)) does,
    )
