use Rattle.transactions.proofs.Beginning.{AreTaken}
use Rattle.transactions.proofs.manager.TransactionManager.vacant.Given as goal

-- each number that was tried is taken
abbrev pub invariant-loop-n : goal.invariant-loop-n
invariant-loop-n g l = AreTaken l.self.log l.epoch l.after l.self.lives l.n
