use Rattle.lent_turns.proofs.Causes.{failed_unmarked}
use Rattle.lent_turns.proofs.replying.take_reply.Goals as goal

pub returns-in_default-clause-cause : goal.returns-in_default-clause-cause
returns-in_default-clause-cause g c =
    failed_unmarked g.row.D.Denot (c.args.e, c.args.n) c.args.state.now c.unmark.new.self c.do_turn.new.state c.do_turn.result c.unmark.ensures.unmarked c.do_turn.ensures.cause
