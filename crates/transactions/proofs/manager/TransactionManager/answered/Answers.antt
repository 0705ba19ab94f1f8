use Rattle.std.proofs.Common.{sym}
use Rattle.transactions.proofs.manager.TransactionManager.answered.Goals as goal

pub returns-in-Some-answered-clause-found : goal.returns-in-Some-answered-clause-found
returns-in-Some-answered-clause-found g c = (c.in-Some.live.now, sym c.in-Some.ensures, c.in-Some-answered.ensures.found)
