use Rattle.all_or_nothing.proofs.Asked.{asked}
use Rattle.all_or_nothing.proofs.law.asking_keeps_all_or_nothing.Goals as goal

pub returns : goal.returns
returns g c = λ e t m n o is all asks.
    asked g.D.Disk.honest g.D.Disk.image g.O.ResourceManager.gives g.O.Holder.place g.O.Holder.keeps g.O.Holder.leaves g.O.Holder.sound c.hold.ensures c.records_votes.ensures c.tells_by_record.ensures c.no_transaction_is_an_epoch.ensures.test e t m n o is all asks
