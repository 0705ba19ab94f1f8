use Rattle.std.proofs.Common.{ap, ◌<◌, true, rules, subst, sym, ◌∙◌}
use Rattle.dtx_values.specs.declared.tx_id.TxId.{TxId}
use Rattle.dtx_model.specs.Steps.{Replies}
use Rattle.dtx_values.specs.TxIds.{number_of}
use Rattle.world_laws.specs.Left.{steps_left}
use Rattle.tx_world.specs.OwnCalls.{DoesAlone}
use Rattle.tx_cells.specs.Cell.{Cell}
use Rattle.tx_cells.proofs.Asked.{IsOwed, owed}
use Rattle.tx_cells.proofs.Kept.{turned_silent}
use Rattle.tx_cells.proofs.Nearer.{reply_nearer}
use Rattle.tx_cells.proofs.Stepped.{alone_owed, fits_owed, kept_reply, reply_done}
use Rattle.tx_cells.proofs.cell.CellState.take_back_alone.Given.{Over}
use Rattle.tx_cells.proofs.cell.CellState.take_back_alone.Goals as goal
use Rattle.tx_cells.proofs.cell.CellState.take_back_alone.Goals.{After-is_own_run, In_ok-reply_alone}

-- The reply is owed where it is done,
is_owed : (g : Over) (c : After-is_own_run g) → IsOwed c.self.inside.world.world c.args.e c.args.n
is_owed g c = owed c.self.inside.world.world (c.args.e, c.args.n) (sym c.is_due.ensures ∙ c.if-not-is_due.false)

-- and was done where that gave no error.
did : (g : Over) (c : In_ok-reply_alone g) → IsOwed c.self.inside.world.world c.args.e c.args.n → DoesAlone (Replies c.args.e c.args.r) c.self.inside.world c.reply_alone.new.self
did g c due = c.reply_alone.ensures.done (reply_done c.self.inside.world.world c.args.e c.args.n c.in_ok-reply_alone.field-0 c.reply_alone.result due c.in_ok-reply_alone.was c.in_ok-reply_alone.ensures.due)

pub reply_alone-requires-clause-fits : goal.reply_alone-requires-clause-fits
reply_alone-requires-clause-fits g c = fits_owed c.self.inside.world.world c.args.e c.args.n c.args.r (is_owed g (goal.at.reply_alone-requires-clause-fits g c).After-is_own_run) c.requires.right.fitting

pub reply_alone-requires-clause-alone : goal.reply_alone-requires-clause-alone
reply_alone-requires-clause-alone g c = alone_owed c.self.inside.world.world c.args.e c.args.n (is_owed g (goal.at.reply_alone-requires-clause-alone g c).After-is_own_run) c.requires.alone

pub invariant_of-self-2 : goal.invariant_of-self-2
invariant_of-self-2 g c =
    let due = is_owed g (goal.at.invariant_of-self-2 g c).After-is_own_run in
    let does = did g (goal.at.invariant_of-self-2 g c).In_ok-reply_alone due in
    let x = c.self.inside.world in (
      c.self.invariant.0 ∙ sym (ap (λ (u : TxId). u.t) does.transaction),
      kept_reply g.N.Run.script g.N.Run.objects g.N.Run.honest true x c.reply_alone.new.self c.self.inside.rows c.args.e c.args.n c.args.r c.self.invariant.1 c.is_own_run.ensures.run due c.requires.right does.transaction
          (does.world ∙ turned_silent (number_of x.transaction) x.world (Replies c.args.e c.args.r)),
    )

pub returns-clause-taken : goal.returns-clause-taken
returns-clause-taken g c =
    let does = did g (goal.at.returns-clause-taken g c).In_ok-reply_alone (is_owed g (goal.at.returns-clause-taken g c).After-is_own_run) in
    let x = c.self.inside.world in
    record {
      due = search rules;
      done = λ yes. subst (λ (z : Cell). DoesAlone (Replies c.args.e c.args.r) z.tx c.reply_alone.new.self) c.self.view_is does;
      nearer = λ yes.
          subst (λ (z : Cell). steps_left c.reply_alone.new.self.world < steps_left z.tx.world) c.self.view_is
          (reply_nearer true x c.reply_alone.new.self c.args.e c.args.n c.args.r c.is_own_run.ensures.run (sym c.is_due.ensures ∙ c.if-not-is_due.false) c.requires.right.fitting
          (does.world ∙ turned_silent (number_of x.transaction) x.world (Replies c.args.e c.args.r)));
      late = search rules;
      unmarked = search rules;
    }
