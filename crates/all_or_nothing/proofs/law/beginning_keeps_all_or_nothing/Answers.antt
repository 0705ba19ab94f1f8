use Rattle.transactions.specs.State.{blank}
use Rattle.transactions.proofs.Entering.{call_writes}
use Rattle.all_or_nothing.proofs.Begun.{begun_keeps}
use Rattle.all_or_nothing.proofs.law.beginning_keeps_all_or_nothing.Goals as goal

pub returns : goal.returns
returns g c = λ t m n o is all b.
    begun_keeps g.D.Disk.honest g.D.Disk.image g.D.Disk.faults g.O.Holder.place g.O.Holder.keeps g.O.Holder.leaves g.O.Holder.sound c.no_transaction_is_an_epoch.ensures.test t m n o is all b
    (call_writes g.D.Disk.faults n.log b.call b.line b.answer (blank t b.time) b.begun b.called)
