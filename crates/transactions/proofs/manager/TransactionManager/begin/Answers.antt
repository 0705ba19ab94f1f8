use Rattle.std.proofs.Common.{ap}
use Rattle.transactions.specs.Slots.{Standing}
use Rattle.transactions.proofs.Beginning.{begun_by}
use Rattle.transactions.proofs.manager.TransactionManager.begin.Goals as goal

pub returns-clause-begun : goal.returns-clause-begun
returns-clause-begun g c =
    begun_by g.D.Disk.faults c.args.timeout c.in-Ok.t c.next_number.new.self c.begin_as.new.self c.args.self.now.reading c.begin_as.result (ap (λ (s : Standing _ _). s.reading) c.next_number.ensures.rest) c.begin_as.ensures.rest c.begin_as.ensures.number
    c.begin_as.ensures.begun
