use Rattle.std.proofs.Common.{◌∙◌, sym}
use Rattle.coordinator_core.proofs.Following.{after_abort}
use Rattle.coordinator_core.proofs.machine.Core.tell_abort.Goals as goal

pub returns-clause-state : goal.returns-clause-state
returns-clause-state c = c.answer_waiting.ensures.state ∙ sym (after_abort c.args.self.now.state)
