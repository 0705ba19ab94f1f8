use Rattle.std.proofs.Common.{◌≡◌, ◌-◌, false}
use Rattle.dtx_values.specs.TxIds.{identifier_of_id}
use Rattle.transactions.specs.Logged.{KeepsRecords}
use Rattle.transactions.proofs.Nexts.{OnwardAt}
use Rattle.transactions.proofs.manager.TransactionManager.poll.Given as goal

abbrev pub invariant-loop-count : goal.invariant-loop-count
invariant-loop-count g l = OnwardAt l.t l.fn.self l.self × (g.D.Relay.is_settled l.fn.self.log.disk ≡ false → l.self ≡ l.fn.self)
    × KeepsRecords g.D.Disk.honest g.D.Disk.image (identifier_of_id l.t) l.fn.self.log l.self.log

abbrev pub decreases-loop-count : goal.decreases-loop-count
decreases-loop-count g l = 18446744073709551615 - l.count
