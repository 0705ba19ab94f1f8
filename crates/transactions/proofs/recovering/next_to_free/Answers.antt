use Rattle.std.proofs.Common.{ap, arith}
use Rattle.dtx_model.specs.Log.{first_of}
use Rattle.coordinator_log.specs.Slots.{open_records}
use Rattle.transactions.proofs.Freeing.{none_found}
use Rattle.transactions.proofs.recovering.next_to_free.Goals as goal

pub returns-clause-none : goal.returns-clause-none
returns-clause-none g c none id =
    none_found c.args.desk.now c.args.lives.now (open_records c.args.log.now.slots) c.records-slots.result.now (λ k lt. c.loop-slot.invariant k (omega arith)) id (ap (first_of id) c.records-slots.ensures.open)
