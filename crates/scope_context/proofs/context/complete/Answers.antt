use Rattle.std.proofs.Common.{◌∙◌, ap, sym}
use Rattle.std.proofs.lemmas.List.Edits.{map_over_more}
use Rattle.dtx_values.specs.declared.scope.OpenScope.{OpenScope}
use Rattle.dtx_model.specs.Scopes.{completed_in}
use Rattle.scope_context.proofs.context.complete.Goals as goal

pub loop-x-preserved : goal.loop-x-preserved
loop-x-preserved c =
    let f : OpenScope → OpenScope = completed_in c.args.s.value in
    let old = c.deref_mut-x-items.result.now in
    rw (c.completed_in.ensures ∙ ap f (sym c.x-item.is)) (map_over_more f old c.loop-x.x-items c.loop-x.x-index c.x-item.result c.loop-x-test.true c.loop-x.invariant c.x-item.is)
