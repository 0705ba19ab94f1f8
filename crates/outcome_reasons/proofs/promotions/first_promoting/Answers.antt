use Rattle.std.proofs.Common.{sym, ◌∙◌, ap, take}
use Rattle.dtx_model.specs.Words.{past_of}
use Rattle.outcome_reasons.specs.Promotions.{promoting}
use Rattle.outcome_reasons.proofs.Firsts.{first-at, first-more, not_some}
use Rattle.outcome_reasons.proofs.promotions.first_promoting.Goals as goal

pub returns-in-Some : goal.returns-in-Some
returns-in-Some c =
    let h = c.args.h.now in
    let i = c.loop-i.i in
    let x = c.index-h-i.result in
    sym (first-at (promoting c.args.lines.now (past_of c.args.numbers.now)) h i x c.in-Some.found c.loop-i-test.true (ap (promoting c.args.lines.now (past_of c.args.numbers.now) (past_of (take i h))) (sym c.index-h-i.is) ∙ sym c.promoting.ensures ∙ c.in-Some.is) c.loop-i.invariant)

pub loop-i-preserved : goal.loop-i-preserved
loop-i-preserved c =
    let h = c.args.h.now in
    let i = c.loop-i.i in
    let x = c.index-h-i.result in
    first-more (promoting c.args.lines.now (past_of c.args.numbers.now)) h i x c.loop-i-test.true (ap (promoting c.args.lines.now (past_of c.args.numbers.now) (past_of (take i h))) (sym c.index-h-i.is) ∙ sym c.promoting.ensures ∙ not_some c.promoting.result c.in_default.not-Some) c.loop-i.invariant
