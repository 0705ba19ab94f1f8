use Rattle.all_or_nothing.proofs.Calls.{called}
use Rattle.all_or_nothing.proofs.law.reply_keeps_all_or_nothing.Goals as goal

pub returns : goal.returns
returns g c = λ gs t m n o p is all ready call.
    called g.D.Disk.honest g.D.Disk.image g.O.ResourceManager.gives g.O.Holder.place g.O.Holder.keeps g.O.Holder.leaves g.O.Holder.sound c.hold.ensures c.records_votes.ensures c.tells_by_record.ensures c.no_transaction_is_an_epoch.ensures.test gs t m n o p is all call ready
