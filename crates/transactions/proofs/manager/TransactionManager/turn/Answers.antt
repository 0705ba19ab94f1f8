use Rattle.std.proofs.Common.{sym}
use Rattle.transactions.proofs.Turning.{drive_fails, stopped_before, stopped_within, turned_by}
use Rattle.transactions.proofs.manager.TransactionManager.turn.Goals as goal

pub returns-in-Err-clause-stopped : goal.returns-in-Err-clause-stopped
returns-in-Err-clause-stopped g c =
    stopped_before g.D.Disk.faults g.D.Disk.honest g.D.Disk.image g.O.ResourceManager.gives c.args.t c.args.self.now c.pass.new.self c.args.o.now c.in-Some.field-0.now (sym c.in-Some.ensures) c.in-Err.ensures.failed c.pass.ensures.rest

pub returns-in-Err-driven-clause-stopped : goal.returns-in-Err-driven-clause-stopped
returns-in-Err-driven-clause-stopped g c =
    stopped_within g.D.Disk.faults g.D.Disk.honest g.D.Disk.image g.O.ResourceManager.gives c.args.t c.args.self.now c.pass.new.self c.drive-driven.new.self c.args.o.now c.drive-driven.new.o c.in-Some.field-0.now (sym c.in-Some.ensures)
    c.in_default-pass.ensures.passed c.pass.ensures.rest c.drive-driven.ensures.heard c.has_run_at.ensures c.has_run_at-2.ensures

pub returns-clause-turned : goal.returns-clause-turned
returns-clause-turned g c =
    turned_by g.D.Disk.faults g.D.Disk.honest g.D.Disk.image g.O.ResourceManager.gives c.args.t c.args.self.now c.pass.new.self c.drive-driven.new.self c.sweep.new.self c.args.o.now c.drive-driven.new.o c.in-Some.field-0.now (sym c.in-Some.ensures)
    c.in_default-pass.ensures.passed c.pass.ensures.rest c.drive-driven.ensures.heard c.sweep.ensures.rest c.in_default-driven.ensures.all c.sweep.ensures.swept c.has_run_at.ensures c.has_run_at-2.ensures

pub returns-in-Err-driven-clause-cause : goal.returns-in-Err-driven-clause-cause
returns-in-Err-driven-clause-cause g c =
    let s = c.args.self.now in
    drive_fails g.D.Disk.faults s.log s.reading c.args.t s.lives c.pass.new.self.lives c.in-Err-driven.e c.in-Some.field-0.now (sym c.in-Some.ensures) c.in_default-pass.ensures.passed c.in-Err-driven.ensures.cause
