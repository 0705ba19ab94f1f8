use Rattle.std.proofs.Common.{◌∙◌, length, refl}
use Rattle.host_disk.proofs.Orders.{after-write_order}
use Rattle.host_disk.proofs.Ranges.{Follows-written}
use Rattle.host_disk.proofs.host_disk.HostDiskDisk.write_at.Goals as goal

pub returns-in-Ok-clause-put : goal.returns-in-Ok-clause-put
returns-in-Ok-clause-put c = c.in-Ok.ensures.relays.bytes ∙ after-write_order c.args.self.now.bytes c.args.from.now c.args.at

pub returns-in-Ok-clause-images : goal.returns-in-Ok-clause-images
returns-in-Ok-clause-images c =
    Follows-written c.args.self.now c.ask_write.new.self c.args.at (length c.args.from.now) c.args.from.now refl c.requires
    (c.in-Ok.ensures.relays.bytes ∙ after-write_order c.args.self.now.bytes c.args.from.now c.args.at) c.in-Ok.ensures.written
