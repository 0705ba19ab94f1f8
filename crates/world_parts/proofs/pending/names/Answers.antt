use Rattle.std.proofs.Common.{◌≡◌, ◌≤◌, ◌<◌, ◌+◌, ◌-◌, ◌∷◌, List, length, ap, sym, ◌∙◌, subst, drop, arith}
use Rattle.std.proofs.lemmas.List.{drop_more}
use Rattle.dtx_values.specs.declared.number.EnlNo.{EnlNo}
use Rattle.dtx_model.specs.declared.branch.Branch.{Branch}
use Rattle.dtx_model.specs.Replies.{with_name, with_names}
use Rattle.world_parts.proofs.Places.{named_few}
use Rattle.world_parts.proofs.pending.names.Goals as goal

pub loop-i-preserved : goal.loop-i-preserved
loop-i-preserved c =
    let bs = c.branches-branches.result.now in
    let i = c.loop-i.i in
    let b = c.index-branches-i.result in
    let start = c.loop-x.found.items in
    let some : i - 1 < length bs = omega (arith, c.loop-i-test.true, c.loop-i.invariant.2) in
    let again : i - 1 + 1 ≡ i = omega (arith, c.loop-i-test.true) in
    let rest : drop (i - 1) bs ≡ b ∷ drop i bs =
    drop_more bs (i - 1) b some ∙ ap (λ (y : Branch). y ∷ drop (i - 1 + 1) bs) (sym c.index-branches-i.is) ∙ ap (λ n. b ∷ drop n bs) again in
    let put = c.put_name.ensures ∙ ap (λ (y : Branch). with_name y.enlistment c.loop-i.found.items) (sym c.index-branches-i.is) in
    let few : length c.put_name.new.items.items ≤ length c.loop-i.found.items + 1 = subst (λ (es : List EnlNo). length es ≤ length c.loop-i.found.items + 1) (sym put) (named_few b.enlistment c.loop-i.found.items) in
    let room = c.loop-i.invariant.1 in (
      put ∙ ap (with_name b.enlistment) c.loop-i.invariant.0 ∙ sym (ap (λ (cs : List Branch). with_names cs start) rest),
      omega (arith, few, room, c.loop-i-test.true),
      omega (arith, some),
    )
