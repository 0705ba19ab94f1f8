use Rattle.coordinator_core.proofs.Single.{not_off}
use Rattle.coordinator_core.proofs.machine.Core.call_off.Goals as goal

pub returns-else-is_so-clause-state : goal.returns-else-is_so-clause-state
returns-else-is_so-clause-state c = not_off c.args.is_so c.args.self.now.state c.if-is_so.false
