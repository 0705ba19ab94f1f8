use Rattle.dtx_model.specs.Contexts.{asked_by}
use Rattle.transactions.proofs.Scoping.{works_in}
use Rattle.transactions.proofs.manager.TransactionManager.in_scope.Goals as goal

pub returns : goal.returns
returns g c =
    works_in g.D.Disk.faults g.D.Disk.honest g.D.Disk.image g.O.ResourceManager.gives (g.W.Work.does c.args.w) c.args.k c.args.t (asked_by c.args.i) c.in-Ok.s c.run-worked.result c.finish.result
    c.args.self.now c.open_scope.new.self c.run-worked.new.manager c.finish.new.self c.args.a.now c.open_scope.new.a c.run-worked.new.a c.finish.new.a c.args.o.now c.run-worked.new.o c.finish.new.o
    c.in-Ok.ensures.opened c.in-Ok.ensures.begun c.in-Ok.ensures.others c.run-worked.ensures c.finish.ensures.work c.finish.ensures.finishes
