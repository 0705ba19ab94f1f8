use Rattle.transactions.proofs.Entering.{goes_heard, heard_from, on_ok, unentered_heard}
use Rattle.transactions.proofs.manager.TransactionManager.go.Goals as goal

pub returns-in_err-enter-clause-heard : goal.returns-in_err-enter-clause-heard
returns-in_err-enter-clause-heard g c =
    unentered_heard g.D.Disk.faults g.D.Disk.honest g.D.Disk.image g.O.ResourceManager.gives c.args.t c.args.c.now c.args.self.now c.enter.new.self c.args.o.now c.in_err-enter.field-0.0 c.enter.ensures.rest
    c.in_err-enter.ensures.entered

pub returns-clause-heard : goal.returns-clause-heard
returns-clause-heard g c =
    goes_heard g.D.Disk.faults g.D.Disk.honest g.D.Disk.image g.O.ResourceManager.gives c.args.t c.args.c.now c.args.self.now c.enter.new.self c.drive.new.self c.args.o.now c.drive.new.o
    c.in_ok-enter.ensures.entered c.enter.ensures.rest
    c.is_within.ensures c.drive.ensures.heard

pub returns-clause-goes : goal.returns-clause-goes
returns-clause-goes g c = on_ok c.drive.result (
  c.enter.new.self.lives,
  c.in_ok-enter.ensures.entered,
  heard_from g.D.Disk.honest g.D.Disk.image g.O.ResourceManager.gives c.args.t c.args.self.now c.enter.new.self c.drive.new.self c.args.o.now c.drive.new.o c.enter.ensures.rest c.drive.ensures.heard,
)
