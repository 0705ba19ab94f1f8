use Rattle.std.proofs.Common.{◌∙◌, sym}
use Rattle.coordinator_core.proofs.Causes.{heard_why, voted_why}
use Rattle.coordinator_core.proofs.machine.Core.act.Goals as goal

pub returns-then-may_log-clause-voted : goal.returns-then-may_log-clause-voted
returns-then-may_log-clause-voted c r is = voted_why c.args.self.now.state (sym c.may_log.ensures ∙ c.if-may_log.true)

pub returns-then-may_free-clause-heard : goal.returns-then-may_free-clause-heard
returns-then-may_free-clause-heard c id is = heard_why c.args.self.now.state (sym c.may_free.ensures ∙ c.if-may_free.true)
