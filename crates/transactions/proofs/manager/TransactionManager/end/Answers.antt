use Rattle.std.proofs.Common.{refl}
use Rattle.transactions.proofs.manager.TransactionManager.end.Goals as goal

pub returns-clause-over : goal.returns-clause-over
returns-clause-over g c = c.if-not-is_over.ensures.over refl
