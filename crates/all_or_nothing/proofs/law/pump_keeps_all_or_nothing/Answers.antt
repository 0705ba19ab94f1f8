use Rattle.all_or_nothing.proofs.Turns.{pump_stopped, pumped}
use Rattle.all_or_nothing.proofs.law.pump_keeps_all_or_nothing.Goals as goal

pub returns : goal.returns
returns g c = record {
  turned = pumped g.D.Disk.faults g.D.Disk.honest g.D.Disk.image g.O.ResourceManager.gives g.O.Holder.place g.O.Holder.keeps g.O.Holder.leaves g.O.Holder.sound (record { holders = c.hold.ensures; votes = c.records_votes.ensures; tells = c.tells_by_record.ensures; epochs = c.no_transaction_is_an_epoch.ensures.test });
  stopped = pump_stopped g.D.Disk.faults g.D.Disk.honest g.D.Disk.image g.O.ResourceManager.gives g.O.Holder.place g.O.Holder.keeps g.O.Holder.leaves g.O.Holder.sound (record { holders = c.hold.ensures; votes = c.records_votes.ensures; tells = c.tells_by_record.ensures; epochs = c.no_transaction_is_an_epoch.ensures.test });
}
