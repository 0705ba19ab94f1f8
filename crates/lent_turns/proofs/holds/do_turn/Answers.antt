use Rattle.std.proofs.Common.{◌≡◌}
use Rattle.lent_turns.proofs.Causes.{failed_with}
use Rattle.lent_turns.proofs.holds.do_turn.Goals as goal

pub returns-clause-cause : goal.returns-clause-cause
returns-clause-cause g c =
    failed_with c.args.state.now.tx c.deref_mut.result.now.log (c.do_over.new.state ≡ c.args.state.now) (c.do_over.new.log ≡ c.deref_mut.result.now) c.do_over.result c.do_over.ensures.cause
