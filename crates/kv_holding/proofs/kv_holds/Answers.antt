use Rattle.kv_holding.proofs.Held.{as_stored, holds, put_sound}
use Rattle.kv_holding.proofs.kv_holds.Goals as goal

pub returns-clause-held : goal.returns-clause-held
returns-clause-held g c = λ old new p n a sound gives. holds g.D.Disk.honest g.D.Disk.image g.D.Disk.faults old new p n a sound gives

pub returns-clause-opened : goal.returns-clause-opened
returns-clause-opened g c = λ s stored. as_stored g.D.Disk.honest g.D.Disk.image s stored

pub returns-clause-put : goal.returns-clause-put
returns-clause-put g c = λ s p k v sound. put_sound g.D.Disk.honest g.D.Disk.image s p k v sound
