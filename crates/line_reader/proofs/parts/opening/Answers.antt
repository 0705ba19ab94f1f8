use Rattle.std.proofs.Common.{rules, ap, ◌∙◌}
use Rattle.dtx_model.specs.Faults.{word_fault}
use Rattle.line_reader.specs.Reader.{opening_forms}
use Rattle.line_reader.proofs.Keys.{unknown_opening}
use Rattle.line_reader.proofs.parts.opening.Goals as goal

pub returns : goal.returns
returns c = ap (word_fault opening_forms) c.in-Some.ensures.some ∙ unknown_opening c.in-Some.word.now c.next.new.self (search rules)
