use Rattle.std.proofs.Common.{ap, ◌<◌, rules, subst, sym, ◌∙◌}
use Rattle.dtx_values.specs.declared.tx_id.TxId.{TxId}
use Rattle.dtx_model.specs.Steps.{Replies}
use Rattle.world_laws.specs.Left.{steps_left}
use Rattle.tx_world.specs.Stepping.{Does}
use Rattle.tx_cells.specs.Cell.{Cell}
use Rattle.tx_cells.proofs.Asked.{IsOwed, owed}
use Rattle.tx_cells.proofs.Nearer.{reply_nearer}
use Rattle.tx_cells.proofs.Stepped.{fits_owed, kept_reply, reply_done}
use Rattle.tx_cells.proofs.cell.CellState.take_back_over.Given.{Over}
use Rattle.tx_cells.proofs.cell.CellState.take_back_over.Goals as goal
use Rattle.tx_cells.proofs.cell.CellState.take_back_over.Goals.{After-is_own_run, In_ok-reply}

-- The reply is owed where it is done,
is_owed : (g : Over) (c : After-is_own_run g) → IsOwed c.self.inside.world.world c.args.e c.args.n
is_owed g c = owed c.self.inside.world.world (c.args.e, c.args.n) (sym c.is_due.ensures ∙ c.if-not-is_due.false)

-- and was done where that gave no error.
did : (g : Over) (c : In_ok-reply g) → IsOwed c.self.inside.world.world c.args.e c.args.n → Does g.D.Disk.faults (Replies c.args.e c.args.r) c.self.inside.world c.args.log.now c.reply.new.self c.args.log.now
did g c due = c.reply.ensures.done (reply_done c.self.inside.world.world c.args.e c.args.n c.in_ok-reply.field-0 c.reply.result due c.in_ok-reply.was c.in_ok-reply.ensures.due)

pub reply-requires : goal.reply-requires
reply-requires g c = record { fits = fits_owed c.self.inside.world.world c.args.e c.args.n c.args.r (is_owed g (goal.at.reply-requires g c).After-is_own_run) c.requires.right.fitting }

pub invariant_of-self-2 : goal.invariant_of-self-2
invariant_of-self-2 g c =
    let due = is_owed g (goal.at.invariant_of-self-2 g c).After-is_own_run in
    let does = did g (goal.at.invariant_of-self-2 g c).In_ok-reply due in (
      c.self.invariant.0 ∙ sym (ap (λ (u : TxId). u.t) does.transaction),
      kept_reply g.N.Run.script g.N.Run.objects g.N.Run.honest c.args.log.now.is_up c.self.inside.world c.reply.new.self c.self.inside.rows c.args.e c.args.n c.args.r c.self.invariant.1 c.is_own_run.ensures.run due c.requires.right does.transaction does.world,
    )

pub returns-clause-taken : goal.returns-clause-taken
returns-clause-taken g c =
    let does = did g (goal.at.returns-clause-taken g c).In_ok-reply (is_owed g (goal.at.returns-clause-taken g c).After-is_own_run) in
    record {
      due = search rules;
      done = λ yes. subst (λ (z : Cell). Does g.D.Disk.faults (Replies c.args.e c.args.r) z.tx c.args.log.now c.reply.new.self c.args.log.now) c.self.view_is does;
      nearer = λ yes.
          subst (λ (z : Cell). steps_left c.reply.new.self.world < steps_left z.tx.world) c.self.view_is
          (reply_nearer c.args.log.now.is_up c.self.inside.world c.reply.new.self c.args.e c.args.n c.args.r c.is_own_run.ensures.run (sym c.is_due.ensures ∙ c.if-not-is_due.false) c.requires.right.fitting does.world);
      late = search rules;
      unmarked = search rules;
    }
