use Rattle.transactions.proofs.manager.TransactionManager.begin_as.Goals as goal

pub returns-clause-begun : goal.returns-clause-begun
returns-clause-begun g c = (c.in-Ok.live, c.in_default.ensures.now, c.in-Ok.ensures.begun)
