use Rattle.trace_text.proofs.ReadTraces.{text_or_bad, one_bad}
use Rattle.trace_text.proofs.reader.reads_traces_exactly.Goals as goal

pub returns-clause-either : goal.returns-clause-either
returns-clause-either c = text_or_bad

pub returns-clause-first : goal.returns-clause-first
returns-clause-first c = one_bad
