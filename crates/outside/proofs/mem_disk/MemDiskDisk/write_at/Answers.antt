use Rattle.outside.proofs.mem_disk.MemDiskDisk.write_at.Goals as goal

pub returns-clause-images : goal.returns-clause-images
returns-clause-images c = rw (← c.self.view_is) c.write_at.ensures.images
