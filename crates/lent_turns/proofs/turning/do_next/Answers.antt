use Rattle.std.proofs.Common.{sym}
use Rattle.lent_turns.proofs.Standing.{step_stands}
use Rattle.lent_turns.proofs.turning.do_next.Goals as goal

pub returns-in-Step-clause-nothing : goal.returns-in-Step-clause-nothing
returns-in-Step-clause-nothing g c e = absurd (step_stands c.args.state.now c.in-Step.k (sym c.in-Step.ensures) (c.do_turn.ensures.none e).0)
