use Rattle.std.proofs.Common.{ap, arith, sym, ◌∙◌}
use Rattle.std.proofs.lemmas.List.{take_all}
use Rattle.dtx_model.specs.Plans.{or_silent}
use Rattle.dtx_model.specs.Words.{latest, past_of}
use Rattle.outcome_reasons.specs.Planned.{line_plan}
use Rattle.outcome_reasons.proofs.Plans.{planned_by}
use Rattle.outcome_reasons.proofs.opens.plan_of.Goals as goal

pub returns : goal.returns
returns c =
    let s = c.args.lines.now in
    let e = c.args.e.value in
    c.loop-line.invariant ∙ ap (λ ls. or_silent (latest (line_plan e) (past_of ls))) (take_all c.loop-line.line-index s (omega (arith, c.loop-line-test.false))) ∙ sym (planned_by s e)
