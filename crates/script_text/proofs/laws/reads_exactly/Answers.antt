use Rattle.script_text.proofs.OneReading.{one_script, script_or_bad, one_bad}
use Rattle.script_text.proofs.SomeReading.{script_or_first_bad}
use Rattle.script_text.proofs.Longer.{longer}
use Rattle.script_text.proofs.laws.reads_exactly.Goals as goal

pub returns-clause-one : goal.returns-clause-one
returns-clause-one c = one_script

pub returns-clause-either : goal.returns-clause-either
returns-clause-either c = script_or_bad

pub returns-clause-first : goal.returns-clause-first
returns-clause-first c = one_bad

pub returns-clause-some : goal.returns-clause-some
returns-clause-some c = script_or_first_bad

pub returns-clause-longer : goal.returns-clause-longer
returns-clause-longer c = longer
