use Rattle.put_lines.proofs.OneInput.{input_or_refused, one_input, one_refusal}
use Rattle.put_lines.proofs.LongerInputs.{longer, whole}
use Rattle.put_lines.proofs.laws.reads_one_input.Goals as goal

pub returns-clause-one : goal.returns-clause-one
returns-clause-one c = one_input

pub returns-clause-either : goal.returns-clause-either
returns-clause-either c = input_or_refused

pub returns-clause-first : goal.returns-clause-first
returns-clause-first c = one_refusal

pub returns-clause-longer : goal.returns-clause-longer
returns-clause-longer c = longer

pub returns-clause-whole : goal.returns-clause-whole
returns-clause-whole c = whole
