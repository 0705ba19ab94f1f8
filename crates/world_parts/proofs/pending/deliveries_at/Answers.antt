use Rattle.std.proofs.Common.{◌+◌, ◌∷◌, ap, sym, ◌∙◌, drop}
use Rattle.std.proofs.lemmas.List.{drop_more}
use Rattle.dtx_values.specs.declared.end.End.{End}
use Rattle.dtx_model.specs.Steps.{deliveries_on}
use Rattle.world_parts.proofs.Places.{part_here}
use Rattle.world_parts.proofs.pending.deliveries_at.Goals as goal

pub returns-in-Step-clause-at : goal.returns-in-Step-clause-at
returns-in-Step-clause-at c =
    let xs = c.args.ends.now in
    let i = c.loop-n.n-index in
    let x = c.n-item.result in
    let rest = drop_more xs i x c.loop-n-test.true ∙ ap (λ (y : End). y ∷ drop (i + 1) xs) (sym c.n-item.is) in
    part_here (deliveries_on c.args.history.now.past) xs i c.args.k c.loop-n.more x c.in-Step.s rest c.loop-n.invariant c.in-Step.ensures.at
