use Rattle.std.proofs.Common.{List, sym, ◌∙◌, ap}
use Rattle.dtx_values.specs.declared.entry.Entry.{Entry}
use Rattle.dtx_model.specs.Words.{past_of}
use Rattle.dtx_model.specs.Caused.{plans_of}
use Rattle.outcome_reasons.specs.Opens.{unanswered}
use Rattle.outcome_reasons.proofs.Firsts.{first-at, first-more, not_some}
use Rattle.outcome_reasons.proofs.opens.first_unanswered.Goals as goal

pub returns-in-Some : goal.returns-in-Some
returns-in-Some c =
    let h = c.args.h.now in
    let i = c.loop-i.i in
    let x = c.index-h-i.result in
    sym (first-at (λ (past : List Entry) (y : Entry). unanswered (plans_of c.args.lines.now) (past_of h) y) h i x c.in-Some.found c.loop-i-test.true (ap (unanswered (plans_of c.args.lines.now) (past_of h)) (sym c.index-h-i.is) ∙ sym c.unanswered.ensures ∙ c.in-Some.is) c.loop-i.invariant)

pub loop-i-preserved : goal.loop-i-preserved
loop-i-preserved c =
    let h = c.args.h.now in
    let i = c.loop-i.i in
    let x = c.index-h-i.result in
    first-more (λ (past : List Entry) (y : Entry). unanswered (plans_of c.args.lines.now) (past_of h) y) h i x c.loop-i-test.true (ap (unanswered (plans_of c.args.lines.now) (past_of h)) (sym c.index-h-i.is) ∙ sym c.unanswered.ensures ∙ not_some c.unanswered.result c.in_default.not-Some) c.loop-i.invariant
