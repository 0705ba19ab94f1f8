use Rattle.std.proofs.Common.{arith}
use Rattle.coordinator_core.proofs.Room.{waits_more}
use Rattle.coordinator_core.proofs.machine.Core.waits_again.Goals as goal

pub returns-in-ReenlistReenlist : goal.returns-in-ReenlistReenlist
returns-in-ReenlistReenlist c =
    omega (arith, waits_more c.args.self.now.state.waits c.args.e c.args.m c.in-ReenlistReenlist.field-0 c.in-ReenlistReenlist.is, c.others_wait.ensures.count)
