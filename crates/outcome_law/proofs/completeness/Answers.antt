use Rattle.outcome_law.proofs.Completes.{settled_told}
use Rattle.settled_histories.proofs.ReturnsAnswered.{answered_returns}
use Rattle.outcome_law.proofs.StopsDecide.{told_settled, waits_answered}
use Rattle.outcome_law.proofs.completeness.Goals as goal

pub returns-clause-told : goal.returns-clause-told
returns-clause-told c = told_settled

pub returns-clause-committed : goal.returns-clause-committed
returns-clause-committed c = settled_told

pub returns-clause-answered : goal.returns-clause-answered
returns-clause-answered c = answered_returns

pub returns-clause-waited : goal.returns-clause-waited
returns-clause-waited c = waits_answered
