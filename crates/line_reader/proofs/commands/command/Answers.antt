use Rattle.std.proofs.Common.{rules, ap, ◌∙◌}
use Rattle.dtx_model.specs.Faults.{word_fault, command_forms}
use Rattle.line_reader.proofs.Keys.{unknown_command}
use Rattle.line_reader.proofs.commands.command.Goals as goal

pub returns : goal.returns
returns c = ap (word_fault command_forms) c.in-Some.ensures.some ∙ unknown_command c.in-Some.word.now c.next.new.self (search rules) (search rules) (search rules)
