use Rattle.coordinator_core.proofs.Single.{asked, not_asked}
use Rattle.coordinator_core.proofs.machine.Core.ask_alone.Goals as goal

pub returns-then-is_one-clause-state : goal.returns-then-is_one-clause-state
returns-then-is_one-clause-state c = asked c.args.accepted c.args.is_one c.args.self.now.state c.if-accepted.true c.if-is_one.true

pub returns-else-accepted-clause-state : goal.returns-else-accepted-clause-state
returns-else-accepted-clause-state c = not_asked c.args.accepted c.args.is_one c.args.self.now.state c.if-accepted.false
