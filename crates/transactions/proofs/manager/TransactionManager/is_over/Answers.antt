use Rattle.std.proofs.Common.{sym}
use Rattle.transactions.proofs.manager.TransactionManager.is_over.Goals as goal

pub returns-in-Some-clause-over : goal.returns-in-Some-clause-over
returns-in-Some-clause-over g c = λ e. (c.in-Some.live.now, sym c.in-Some.ensures, c.is_over.ensures.0 e)
