use Rattle.call_order.proofs.Entered.{entered_lines, whole_lines, whole_log_lines}
use Rattle.call_order.proofs.Named.{unnamed_uncalled}
use Rattle.call_order.proofs.entered_calls.Goals as goal

pub returns-clause-entered : goal.returns-clause-entered
returns-clause-entered c = entered_lines

pub returns-clause-whole : goal.returns-clause-whole
returns-clause-whole c = whole_lines

pub returns-clause-whole_log : goal.returns-clause-whole_log
returns-clause-whole_log c = whole_log_lines

pub returns-clause-unnamed : goal.returns-clause-unnamed
returns-clause-unnamed c = unnamed_uncalled
