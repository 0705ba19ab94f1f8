use Rattle.dtx_values.specs.declared.tx_id.TxId.{TxId}
use Rattle.std.proofs.Common.{◌≡◌, false, subst, sym, ap, ◌∙◌}
use Rattle.std.specs.Prelude.{Ok}
use Rattle.tx_world.specs.Stepping.{needs_log}
use Rattle.tx_cells.specs.Cell.{Cell}
use Rattle.tx_cells.proofs.Stepped.{kept_alone}
use Rattle.tx_cells.proofs.cell.CellState.do_step_alone.Goals as goal

pub invariant_of-self-2 : goal.invariant_of-self-2
invariant_of-self-2 g c =
    let does = c.step_alone.ensures.some (c.in_ok-step_alone.was ∙ ap Ok c.if-not-branch.false) in (
      c.self.invariant.0 ∙ sym (ap (λ (u : TxId). u.t) does.done.transaction),
      kept_alone g.N.Run.script g.N.Run.objects g.N.Run.honest c.self.inside.world c.step_alone.new.self c.self.inside.rows c.args.k c.self.invariant.1 c.is_own_run.ensures.run
          (subst (λ (z : Cell). needs_log z.tx.world c.args.k ≡ false) (sym c.self.view_is) c.requires.alone) does,
    )
