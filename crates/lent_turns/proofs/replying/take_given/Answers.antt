use Rattle.std.proofs.Common.{◌≡◌}
use Rattle.lent_turns.proofs.Causes.{failed_over}
use Rattle.lent_turns.proofs.replying.take_given.Goals as goal

pub returns-clause-cause : goal.returns-clause-cause
returns-clause-cause g c =
    failed_over c.args.state.now.tx c.deref.result.now.log (c.take_back-2.new.self.tx ≡ c.args.state.now.tx) c.take_back-2.result c.take_back-2.ensures.cause
