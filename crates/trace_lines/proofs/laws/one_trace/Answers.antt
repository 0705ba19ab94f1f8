use Rattle.trace_lines.proofs.ObjectTexts.{json_plain}
use Rattle.trace_lines.proofs.OneTrace.{text_names, text_one}
use Rattle.trace_lines.proofs.WireTexts.{wire_frames, wire_names, wire_one}
use Rattle.trace_lines.proofs.laws.one_trace.Goals as goal

pub returns-clause-one : goal.returns-clause-one
returns-clause-one c = text_one

pub returns-clause-names : goal.returns-clause-names
returns-clause-names c = text_names

pub returns-clause-json : goal.returns-clause-json
returns-clause-json c S T u i h k a b e = text_one S T u i h k a b (json_plain S T e)

pub returns-clause-json_names : goal.returns-clause-json_names
returns-clause-json_names c S T u i h k e = text_names S T u i h k (json_plain S T e)

pub returns-clause-wire : goal.returns-clause-wire
returns-clause-wire c = wire_one

pub returns-clause-wire_names : goal.returns-clause-wire_names
returns-clause-wire_names c = wire_names

pub returns-clause-wire_frames : goal.returns-clause-wire_frames
returns-clause-wire_frames c = wire_frames
