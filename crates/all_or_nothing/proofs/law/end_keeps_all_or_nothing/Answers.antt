use Rattle.all_or_nothing.proofs.Calls.{given_up}
use Rattle.all_or_nothing.proofs.law.end_keeps_all_or_nothing.Goals as goal

pub returns : goal.returns
returns g c = λ t m n o all left. given_up g.D.Disk.image g.O.Holder.place g.O.Holder.keeps g.O.Holder.leaves g.O.Holder.sound t m n o all left
