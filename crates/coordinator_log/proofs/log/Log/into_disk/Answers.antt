use Rattle.slotted.proofs.SlotReads.{file_agrees}
use Rattle.coordinator_log.proofs.Files.{log_file}
use Rattle.coordinator_log.proofs.log.Log.into_disk.Goals as goal

pub returns-clause-images : goal.returns-clause-images
returns-clause-images g c = rw (← c.self.view_is) (λ h up. file_agrees log_file _ _ _ (c.self.invariant.agrees h up))
