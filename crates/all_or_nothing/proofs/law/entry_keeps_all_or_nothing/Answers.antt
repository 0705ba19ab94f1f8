use Rattle.all_or_nothing.proofs.Calls.{entered}
use Rattle.all_or_nothing.proofs.law.entry_keeps_all_or_nothing.Goals as goal

pub returns : goal.returns
returns g c = λ t m n o is all e.
    entered g.D.Disk.honest g.D.Disk.image g.D.Disk.faults g.O.ResourceManager.gives g.O.Holder.place g.O.Holder.keeps g.O.Holder.leaves g.O.Holder.sound c.hold.ensures c.records_votes.ensures c.tells_by_record.ensures c.no_transaction_is_an_epoch.ensures.test t m n o is all e
