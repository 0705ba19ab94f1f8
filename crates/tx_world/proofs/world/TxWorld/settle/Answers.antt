use Rattle.std.proofs.Common.{arith}
use Rattle.dtx_model.specs.Steps.{pending}
use Rattle.tx_world.proofs.Settling.{none_pending}
use Rattle.tx_world.proofs.world.TxWorld.settle.Goals as goal

pub returns-clause-settled : goal.returns-clause-settled
returns-clause-settled g c =
    let did = c.in_ok-count.ensures.repeated in
    record { stepped = did.stepped; settled = none_pending (pending c.repeat.new.self.world) (did.fewer (omega arith)) }
