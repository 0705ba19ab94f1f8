use Rattle.std.proofs.Common.{◌∙◌, subst}
use Rattle.program_io.specs.Refusal.{HasNoRun}
use Rattle.program_io.specs.declared.judging.Refusal.{Refusal}
use Rattle.program_io.specs.declared.judging.Refusal.TheVariants.{HasDo}
use Rattle.program_io.proofs.Reading.{left-none, reads-front}
use Rattle.program_io.proofs.Threadable.{refused_do}
use Rattle.program_io.proofs.judging.script_from.Goals as goal

pub returns-in-Ok-script_to_run-clause-script : goal.returns-in-Ok-script_to_run-clause-script
returns-in-Ok-script_to_run-clause-script g c =
    let made = c.in-Ok-script_to_run.ensures.script in
    (reads-front _ c.deref.result.now c.in-Ok-script_to_run.script (λ b told. c.deref.ensures.value ∙ c.in-Ok.ensures.read b told) made.0, made.1)

pub returns-in-Ok-script_to_run-clause-left : goal.returns-in-Ok-script_to_run-clause-left
returns-in-Ok-script_to_run-clause-left g c =
    left-none _ _ c.deref.result.now c.in-Ok-script_to_run.script (λ b told. c.deref.ensures.value ∙ c.in-Ok.ensures.read b told) c.in-Ok-script_to_run.ensures.script.0 c.in-Ok.ensures.left

pub returns-in-Err-HasDo-clause-refused : goal.returns-in-Err-HasDo-clause-refused
returns-in-Err-HasDo-clause-refused g c =
    let found : HasNoRun c.args.way c.deref.result.now (HasDo c.in-Err-HasDo.line) = subst (λ (e : Refusal). HasNoRun c.args.way c.deref.result.now e) c.in-Err-HasDo.field-0-is c.in-Err-HasDo.ensures.refused in
    refused_do c.args.way _ c.deref.result.now c.in-Err-HasDo.line (λ b told. c.deref.ensures.value ∙ c.in-Ok.ensures.read b told) found
