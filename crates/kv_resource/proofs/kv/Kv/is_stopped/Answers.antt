use Rattle.slotted.proofs.SlotReads.{file_agrees}
use Rattle.kv_resource.proofs.Files.{kv_file}
use Rattle.kv_resource.proofs.kv.Kv.is_stopped.Goals as goal

pub returns-clause-images : goal.returns-clause-images
returns-clause-images g c = rw (← c.self.view_is) (λ h up. file_agrees kv_file _ _ _ (c.self.invariant.0.stored h up))
