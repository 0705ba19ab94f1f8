use Rattle.std.proofs.Common.{◌∙◌, subst}
use Rattle.heard_notes.specs.Whose.{whose}
use Rattle.put_lines.specs.Refusals.{IsWhy}
use Rattle.put_lines.specs.declared.error.InputError.{InputError}
use Rattle.program_io.proofs.InputsRead.{input_left, input_read, input_refused}
use Rattle.program_io.proofs.inputs.input_from.Goals as goal

pub returns-in-Ok-read_input-clause-read : goal.returns-in-Ok-read_input-clause-read
returns-in-Ok-read_input-clause-read g c =
    input_read c.args.most (whose c.args.of) (λ b ps s k. c.reads_one_input.ensures.whole c.args.most (whose c.args.of) b ps s k) _ c.deref.result.now c.in-Ok-read_input.input.puts.items c.in-Ok-read_input.input.script
    (λ b told. c.deref.ensures.value ∙ c.in-Ok.ensures.read b told) c.in-Ok-read_input.ensures.read

pub returns-in-Ok-read_input-clause-left : goal.returns-in-Ok-read_input-clause-left
returns-in-Ok-read_input-clause-left g c =
    input_left c.args.most (whose c.args.of) _ _ c.deref.result.now c.in-Ok-read_input.input.puts.items c.in-Ok-read_input.input.script
    (λ b told. c.deref.ensures.value ∙ c.in-Ok.ensures.read b told) c.in-Ok-read_input.ensures.read c.in-Ok.ensures.left

pub returns-in-Err-Bad-clause-refused : goal.returns-in-Err-Bad-clause-refused
returns-in-Err-Bad-clause-refused g c =
    let found = subst (λ (e : InputError). IsWhy c.args.most (whose c.args.of) c.deref.result.now e) c.in-Err-Bad.field-0-is c.in-Err-Bad.ensures.bad in
    input_refused c.args.most (whose c.args.of) (λ b n d k. c.reads_one_input.ensures.longer c.args.most (whose c.args.of) b n d k) _ c.deref.result.now c.in-Err-Bad.line c.in-Err-Bad.cause
    (λ b told. c.deref.ensures.value ∙ c.in-Ok.ensures.read b told) found
