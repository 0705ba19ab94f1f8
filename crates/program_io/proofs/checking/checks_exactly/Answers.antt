use Rattle.program_io.proofs.TraceLines.{one_bad_line, within_or_bad}
use Rattle.program_io.proofs.checking.checks_exactly.Goals as goal

pub returns-clause-either : goal.returns-clause-either
returns-clause-either c = within_or_bad

pub returns-clause-first : goal.returns-clause-first
returns-clause-first c = one_bad_line
