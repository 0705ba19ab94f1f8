use Rattle.transactions.proofs.Enlisted.{answered_late}
use Rattle.transactions.proofs.manager.TransactionManager.wait.Goals as goal

pub returns-in-Wait-clause-answered : goal.returns-in-Wait-clause-answered
returns-in-Wait-clause-answered g c = answered_late c.args.t c.args.line c.args.first c.answered.result c.drive.new.self.lives c.in-Wait.is c.answered.ensures.found
