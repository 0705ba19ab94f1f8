use Rattle.coordinator_log.proofs.Again.{record_again, record_long}
use Rattle.coordinator_log.proofs.law.records_are_read_again.Goals as goal

pub returns-clause-again : goal.returns-clause-again
returns-clause-again c = record_again

pub returns-clause-long : goal.returns-clause-long
returns-clause-long c = record_long
