use Rattle.slotted.proofs.SlotReads.{file_agrees, file_is}
use Rattle.coordinator_log.proofs.Files.{log_file}
use Rattle.coordinator_log.proofs.log.Log.lookup.Goals as goal

pub returns-in_err-k-clause-on_disk : goal.returns-in_err-k-clause-on_disk
returns-in_err-k-clause-on_disk g c = rw (← c.self.view_is) (λ h up. let a = c.self.invariant.agrees h up in file_is log_file _ _ a.at_head a.on_disk)

pub returns-in_err-k-clause-images : goal.returns-in_err-k-clause-images
returns-in_err-k-clause-images g c = rw (← c.self.view_is) (λ h up. file_agrees log_file _ _ _ (c.self.invariant.agrees h up))

pub returns-clause-on_disk : goal.returns-clause-on_disk
returns-clause-on_disk g c = rw (← c.self.view_is) (λ h up. let a = c.self.invariant.agrees h up in file_is log_file _ _ a.at_head a.on_disk)

pub returns-clause-images : goal.returns-clause-images
returns-clause-images g c = rw (← c.self.view_is) (λ h up. file_agrees log_file _ _ _ (c.self.invariant.agrees h up))
