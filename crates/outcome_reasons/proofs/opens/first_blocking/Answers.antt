use Rattle.std.proofs.Common.{List, sym, ◌∙◌, ap}
use Rattle.dtx_values.specs.declared.entry.Entry.{Entry}
use Rattle.dtx_model.specs.Words.{past_of}
use Rattle.outcome_reasons.specs.Opens.{blocking}
use Rattle.outcome_reasons.proofs.Firsts.{first-at, first-more, not_some}
use Rattle.outcome_reasons.proofs.opens.first_blocking.Goals as goal

pub returns-in-Some : goal.returns-in-Some
returns-in-Some c =
    let h = c.args.h.now in
    let i = c.loop-i.i in
    let x = c.index-h-i.result in
    sym (first-at (λ (past : List Entry) (y : Entry). blocking (past_of h) y) h i x c.in-Some.c c.loop-i-test.true (ap (blocking (past_of h)) (sym c.index-h-i.is) ∙ sym c.blocking.ensures ∙ c.in-Some.is) c.loop-i.invariant)

pub loop-i-preserved : goal.loop-i-preserved
loop-i-preserved c =
    let h = c.args.h.now in
    let i = c.loop-i.i in
    let x = c.index-h-i.result in
    first-more (λ (past : List Entry) (y : Entry). blocking (past_of h) y) h i x c.loop-i-test.true (ap (blocking (past_of h)) (sym c.index-h-i.is) ∙ sym c.blocking.ensures ∙ not_some c.blocking.result c.in_default.not-Some) c.loop-i.invariant
