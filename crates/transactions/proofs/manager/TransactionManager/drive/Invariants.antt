use Rattle.std.proofs.Common.{◌-◌}
use Rattle.transactions.proofs.Driving.{Driven}
use Rattle.transactions.proofs.manager.TransactionManager.drive.Given as goal

abbrev pub invariant-loop-count : goal.invariant-loop-count
invariant-loop-count g l = Driven g.D.Disk.honest g.D.Disk.image g.O.ResourceManager.gives l.t l.fn.self l.self l.fn.o l.o

abbrev pub decreases-loop-count : goal.decreases-loop-count
decreases-loop-count g l = 18446744073709551615 - l.count
