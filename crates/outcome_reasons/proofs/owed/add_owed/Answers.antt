use Rattle.std.proofs.Common.{◌++◌, List, ap, arith, ◌∙◌}
use Rattle.std.specs.List.{flat_map}
use Rattle.std.proofs.lemmas.List.{take_all}
use Rattle.dtx_values.specs.declared.number.EnlNo.{EnlNo}
use Rattle.dtx_model.specs.Words.{past_of}
use Rattle.outcome_reasons.specs.Owed.{is_owed, owes_if}
use Rattle.outcome_reasons.specs.declared.said.Why.{Why}
use Rattle.outcome_reasons.proofs.Adding.{part-more}
use Rattle.outcome_reasons.proofs.owed.add_owed.Goals as goal

pub loop-e-preserved : goal.loop-e-preserved
loop-e-preserved c = λ s are.
    let h = past_of c.args.h.now in
    let e = c.e-item.result in
    let f : EnlNo → List Why = λ x. owes_if (is_owed s h x) x in
    c.in_ok-add_if_owed.ensures s are ∙ ap (λ v. v ++ f e) (c.loop-e.invariant s are) ∙ part-more f c.args.said.now.items c.deref-e-items.result.now c.loop-e.e-index e c.loop-e-test.true c.e-item.is

pub returns : goal.returns
returns c = λ s are.
    let h = past_of c.args.h.now in
    let f : EnlNo → List Why = λ x. owes_if (is_owed s h x) x in
    c.loop-e.invariant s are
    ∙ ap (λ (xs : List EnlNo). c.args.said.now.items ++ flat_map f xs) (take_all c.loop-e.e-index c.deref-e-items.result.now (omega (arith, c.loop-e-test.false)) ∙ c.deref-e-items.ensures.value ∙ c.in_ok-found.ensures)
