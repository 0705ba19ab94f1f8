use Rattle.std.proofs.Common.{sym}
use Rattle.trace_checker.specs.Keeps.{Keeps}
use Rattle.trace_checker.specs.declared.checked.Checked.TheVariants.{Fine}
use Rattle.script_runner.proofs.found_fine.each_run_is_found_fine.Goals as goal

pub returns-clause-read : goal.returns-clause-read
returns-clause-read c most T n typed carried short bad =
    let read = c.each_text_is_read.ensures.read T typed carried in
    c.checks_exactly.ensures.either most _ read.0 n (record { text = read.1; within = short }) bad

pub returns-clause-fine : goal.returns-clause-fine
returns-clause-fine c s k rise most T S v history outcome typed carried read checked =
    let kept : Keeps T = record { just = outcome.just; agrees = outcome.agrees; wires = history.wires } in
    c.one_verdict.ensures.one S v Fine checked (c.same_text_keeps.ensures.keeps S T kept typed carried read.text.fit (sym read.text.spelled))
