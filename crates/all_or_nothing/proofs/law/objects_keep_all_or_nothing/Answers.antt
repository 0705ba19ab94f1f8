use Rattle.all_or_nothing.proofs.Between.{between}
use Rattle.all_or_nothing.proofs.law.objects_keep_all_or_nothing.Goals as goal

pub returns : goal.returns
returns g c = λ m o p all done. between g.D.Disk.image g.O.Holder.place g.O.Holder.keeps g.O.Holder.leaves g.O.Holder.sound m o p all done
