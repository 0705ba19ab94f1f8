use Rattle.all_or_nothing.proofs.Between.{numbered}
use Rattle.all_or_nothing.proofs.law.refusal_keeps_all_or_nothing.Goals as goal

pub returns : goal.returns
returns g c = λ m n o all refused. numbered g.D.Disk.image g.O.Holder.place g.O.Holder.keeps g.O.Holder.leaves g.O.Holder.sound c.no_transaction_is_an_epoch.ensures.test m n o all refused
