use Rattle.std.proofs.Common.{subst}
use Rattle.transactions.specs.Numbering.{AreFrom}
use Rattle.transactions.specs.Slots.{Standing}
use Rattle.transactions.proofs.manager.TransactionManager.numbers_last.Goals as goal

pub returns : goal.returns
returns g c = λ honest. subst (λ (s : Standing _ _). AreFrom s.last (g.D.Disk.image s.log.disk)) c.self.view_is (c.self.invariant.3.imaged honest)
