use Rattle.std.proofs.Common.{subst}
use Rattle.dtx_values.specs.declared.call.Call.TheVariants.{Gone}
use Rattle.host_manager.proofs.Passing.{enters_as}
use Rattle.host_manager.specs.Host.{faults}
use Rattle.transactions.specs.Doing.{Enters}
use Rattle.resource_managers.specs.declared.enlistment.Enlistment.{Enlistment}
use Rattle.host_manager.proofs.host_manager.HostManager.pass.Goals as goal

pub returns-in-Complete-clause-entered : goal.returns-in-Complete-clause-entered
returns-in-Complete-clause-entered c =
    enters_as c.args.tx.now.number c.args.call _ c.begin_complete.new.self.lives c.begin_complete.result c.args.self.now _ c.in-Complete.is c.self.view_is c.begin_complete.ensures.entered

pub returns-in-Commit-clause-entered : goal.returns-in-Commit-clause-entered
returns-in-Commit-clause-entered c =
    enters_as c.args.tx.now.number c.args.call _ c.begin_commit.new.self.lives c.begin_commit.result c.args.self.now _ c.in-Commit.is c.self.view_is c.begin_commit.ensures.entered

pub returns-in-Rollback-clause-entered : goal.returns-in-Rollback-clause-entered
returns-in-Rollback-clause-entered c =
    enters_as c.args.tx.now.number c.args.call _ c.begin_rollback.new.self.lives c.begin_rollback.result c.args.self.now _ c.in-Rollback.is c.self.view_is c.begin_rollback.ensures.entered

pub returns-in-Tick-clause-entered : goal.returns-in-Tick-clause-entered
returns-in-Tick-clause-entered c =
    enters_as c.args.tx.now.number c.args.call _ c.tick.new.self.lives c.tick.result c.args.self.now _ c.in-Tick.is c.self.view_is c.tick.ensures.entered

pub returns-in-Lost-clause-entered : goal.returns-in-Lost-clause-entered
returns-in-Lost-clause-entered c =
    let t = c.args.tx.now.number in
    let m = c.self.inside.manager in
    let made = c.begin_lost in
    enters_as t c.args.call _ made.new.self.lives made.result c.args.self.now _ c.in-Lost.is c.self.view_is
    (subst (λ (v : Enlistment). Enters faults m.log v.transaction (Gone v.number) m.lives made.new.self.lives made.result) c.enlistment.ensures made.ensures.entered)
