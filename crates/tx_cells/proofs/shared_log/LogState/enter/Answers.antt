use Rattle.std.proofs.Common.{subst, sym, ◌∙◌}
use Rattle.dtx_model.specs.Words.{past_of}
use Rattle.script_calls.specs.Prefix.{IsLogPrefix}
use Rattle.tx_cells.specs.LogCell.{LogCell}
use Rattle.tx_cells.proofs.Calling.{log_called, log_other}
use Rattle.tx_cells.proofs.shared_log.LogState.enter.Goals as goal

pub returns-then-due-line-clause-called : goal.returns-then-due-line-clause-called
returns-then-due-line-clause-called g c =
    log_other g.N.Run.script c.self.inside.rows (past_of c.self.inside.entries.items) c.args.a c.in-Some.due c.args.line c.self.invariant.in_order (sym c.next.ensures ∙ c.in-Some.is) c.if-due-line.true

pub returns-in_ok-enter_stop-in-Stop-clause-called : goal.returns-in_ok-enter_stop-in-Stop-clause-called
returns-in_ok-enter_stop-in-Stop-clause-called g c =
    let order = subst (λ (z : LogCell g.row.D.Denot). IsLogPrefix g.N.Run.script z.rows z.past) c.self.view_is c.self.invariant.in_order in
    log_called g.D.Disk.faults g.D.Disk.honest g.D.Disk.seen g.N.Run.script c.args.a c.args.line c.in_ok-enter_stop-in-Stop.field-0 c.args.self.now c.enter_stop.new.self order c.in_ok-enter_stop-in-Stop.ensures.entered

pub returns-in_ok-enter_restart-in-Restart-clause-called : goal.returns-in_ok-enter_restart-in-Restart-clause-called
returns-in_ok-enter_restart-in-Restart-clause-called g c =
    let order = subst (λ (z : LogCell g.row.D.Denot). IsLogPrefix g.N.Run.script z.rows z.past) c.self.view_is c.self.invariant.in_order in
    log_called g.D.Disk.faults g.D.Disk.honest g.D.Disk.seen g.N.Run.script c.args.a c.args.line c.in_ok-enter_restart-in-Restart.field-0 c.args.self.now c.enter_restart.new.self order c.in_ok-enter_restart-in-Restart.ensures.entered
