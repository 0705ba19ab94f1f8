use Rattle.std.proofs.Common.{arith}
use Rattle.script_maker.proofs.Made.{made_no_log_line, made_reads}
use Rattle.script_maker.proofs.maker.make_script.Goals as goal

pub returns-in_err-script-clause-script : goal.returns-in_err-script-clause-script
returns-in_err-script-clause-script c = made_reads c.args.n (omega arith)

pub returns-clause-script : goal.returns-clause-script
returns-clause-script c = made_reads c.args.n (omega arith)

pub returns-in_err-script-clause-no_log_line : goal.returns-in_err-script-clause-no_log_line
returns-in_err-script-clause-no_log_line c = made_no_log_line c.args.n (omega arith)

pub returns-clause-no_log_line : goal.returns-clause-no_log_line
returns-clause-no_log_line c = made_no_log_line c.args.n (omega arith)
