use Rattle.std.proofs.Common.{◌≡◌, take}
use Rattle.dtx_model.specs.Plans.{or_silent}
use Rattle.dtx_model.specs.Words.{latest, past_of}
use Rattle.outcome_reasons.specs.Planned.{line_plan}
use Rattle.outcome_reasons.proofs.opens.plan_of.Given as goal

abbrev pub invariant-loop-line : goal.invariant-loop-line
invariant-loop-line l = l.plan ≡ or_silent (latest (line_plan l.e.value) (past_of (take l.line-index l.lines)))
