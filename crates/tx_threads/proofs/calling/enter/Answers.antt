use Rattle.std.proofs.Common.{◌≡◌}
use Rattle.lent_turns.proofs.Causes.{failed_over}
use Rattle.tx_threads.proofs.calling.enter.Goals as goal

pub returns-clause-cause : goal.returns-clause-cause
returns-clause-cause g c =
    failed_over c.args.state.now.tx c.deref.result.now.log (c.enter-2.new.self ≡ c.args.state.now) c.enter-2.result c.enter-2.ensures.cause
