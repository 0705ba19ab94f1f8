use Rattle.log_epochs.proofs.Names.{first_number, no_epoch, no_record}
use Rattle.log_epochs.proofs.law.no_transaction_is_an_epoch.Goals as goal

pub returns-clause-test : goal.returns-clause-test
returns-clause-test c = no_epoch

pub returns-clause-record : goal.returns-clause-record
returns-clause-record c = no_record

pub returns-clause-place : goal.returns-clause-place
returns-clause-place c = first_number
