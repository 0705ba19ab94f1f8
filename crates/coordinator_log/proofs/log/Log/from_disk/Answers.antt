use Rattle.std.proofs.Common.{◌∙◌, ap, sym}
use Rattle.dtx_model.specs.Log.{log_has}
use Rattle.slotted.proofs.SlotReads.{file_is}
use Rattle.coordinator_log.proofs.Files.{log_file}
use Rattle.coordinator_log.proofs.log.Log.from_disk.Goals as goal

pub returns-in-Ok-read_all-clause-records : goal.returns-in-Ok-read_all-clause-records
returns-in-Ok-read_all-clause-records g c h =
    rw c.over.ensures
    (ap log_has (sym (c.in-Ok-sync.ensures.seen h)) ∙ file_is log_file (g.D.Disk.seen c.sync.new.self) c.read_all.new.slots (c.in-Ok-read_all.ensures.at_head h) (c.in-Ok-read_all.ensures.slots h))

pub returns-in-Ok-read_all-clause-images : goal.returns-in-Ok-read_all-clause-images
returns-in-Ok-read_all-clause-images g c h =
    rw c.over.ensures
    (λ f left. ap log_has (c.in-Ok-sync.ensures.durable h f (c.in-Ok-read_all.ensures.images h f left) ∙ sym (c.in-Ok-sync.ensures.seen h))
    ∙ file_is log_file (g.D.Disk.seen c.sync.new.self) c.read_all.new.slots (c.in-Ok-read_all.ensures.at_head h) (c.in-Ok-read_all.ensures.slots h))
