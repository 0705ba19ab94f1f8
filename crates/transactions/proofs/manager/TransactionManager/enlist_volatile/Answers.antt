use Rattle.transactions.proofs.Enlisted.{volatile_if}
use Rattle.transactions.proofs.manager.TransactionManager.enlist_volatile.Goals as goal

pub returns-clause-volatile : goal.returns-clause-volatile
returns-clause-volatile g c =
    let s = c.args.self.now in
    volatile_if g.D.Disk.faults s.log c.args.tx.now.number c.args.k s.lives c.enlisted.new.self.lives c.enlisted.result c.enlisted.ensures.enlisted
