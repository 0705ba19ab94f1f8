use Rattle.std.proofs.Common.{sym, ap, ◌∙◌}
use Rattle.dtx_model.specs.Log.{log_has}
use Rattle.slotted.proofs.SlotReads.{file_is}
use Rattle.coordinator_log.proofs.Files.{log_file}
use Rattle.coordinator_log.proofs.log.Log.reopen.Goals as goal

pub returns-clause-records : goal.returns-clause-records
returns-clause-records g c =
    rw (← c.self.view_is)
    (λ h. ap log_has (sym (c.in_ok-sync.ensures.seen h)) ∙ file_is log_file (g.D.Disk.seen c.sync.new.self) c.read_all.new.slots (c.in_ok-read_all.ensures.at_head h) (c.in_ok-read_all.ensures.slots h))

pub returns-clause-images : goal.returns-clause-images
returns-clause-images g c h f left =
    ap log_has (c.in_ok-sync.ensures.durable h f (c.in_ok-read_all.ensures.images h f left) ∙ sym (c.in_ok-sync.ensures.seen h)) ∙ file_is log_file (g.D.Disk.seen c.sync.new.self) c.read_all.new.slots (c.in_ok-read_all.ensures.at_head h) (c.in_ok-read_all.ensures.slots h)
