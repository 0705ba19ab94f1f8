use Rattle.transactions.proofs.Beginning.{AreUsed}
use Rattle.transactions.proofs.manager.TransactionManager.is_crowded.Given as goal

-- each place that was tried has a transaction
abbrev pub invariant-loop-n : goal.invariant-loop-n
invariant-loop-n g l = AreUsed l.self.lives l.n
