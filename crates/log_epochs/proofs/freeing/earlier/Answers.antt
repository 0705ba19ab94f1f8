use Rattle.std.proofs.Common.{arith}
use Rattle.coordinator_log.specs.Slots.{open_records}
use Rattle.log_epochs.proofs.Freed.{none_found}
use Rattle.dtx_model.specs.Log.{first_of}
use Rattle.std.proofs.Common.{ap}
use Rattle.log_epochs.proofs.freeing.earlier.Goals as goal

pub returns-clause-none : goal.returns-clause-none
returns-clause-none g c none id =
    none_found c.args.n (open_records c.args.log.now.slots) c.records-slots.result.now (λ k lt. c.loop-slot.invariant k (omega arith)) id (ap (first_of id) c.records-slots.ensures.open)
