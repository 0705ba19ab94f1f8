use Rattle.all_or_nothing.proofs.Asked.{heard_it, ready_then}
use Rattle.all_or_nothing.proofs.law.hearing_keeps_all_or_nothing.Goals as goal

pub returns : goal.returns
returns g c = record {
  whole = λ e gs t m n o p is all asks hears.
      heard_it g.D.Disk.honest g.D.Disk.image g.O.ResourceManager.gives g.O.Holder.place g.O.Holder.keeps g.O.Holder.leaves g.O.Holder.sound c.hold.ensures c.records_votes.ensures c.tells_by_record.ensures c.no_transaction_is_an_epoch.ensures.test e gs t m n o p is all asks hears;
  ready = λ e gs t m n o p is all asks hears.
      ready_then g.D.Disk.honest g.D.Disk.image g.O.ResourceManager.gives g.O.Holder.place g.O.Holder.keeps g.O.Holder.leaves g.O.Holder.sound c.hold.ensures c.records_votes.ensures c.tells_by_record.ensures e gs t m n o p is all asks hears;
}
