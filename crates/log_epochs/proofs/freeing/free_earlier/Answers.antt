use Rattle.std.proofs.Common.{arith, refl}
use Rattle.coordinator_log.specs.Slots.{open_records}
use Rattle.log_epochs.proofs.Freed.{all_freed}
use Rattle.log_epochs.proofs.freeing.free_earlier.Goals as goal

pub returns-clause-freed : goal.returns-clause-freed
returns-clause-freed g c = all_freed c.args.n (open_records c.loop-id.log.slots) (omega arith) (c.in_default.ensures.none refl)
