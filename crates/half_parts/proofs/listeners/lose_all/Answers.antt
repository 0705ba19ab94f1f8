use Rattle.std.proofs.Common.{◌∙◌, ap, sym}
use Rattle.std.proofs.lemmas.List.Edits.{map_over_more}
use Rattle.dtx_model.specs.declared.listener.Listener.{Listener}
use Rattle.dtx_model.specs.Observed.{lose}
use Rattle.half_parts.proofs.listeners.lose_all.Goals as goal

pub loop-l-preserved : goal.loop-l-preserved
loop-l-preserved c =
    let f : Listener → Listener = lose c.args.e.value in
    rw (c.lose_one.ensures ∙ ap f (sym c.l-item.is)) (map_over_more f c.args.listeners.now c.loop-l.listeners c.loop-l.l-index c.l-item.result c.loop-l-test.true c.loop-l.invariant c.l-item.is)
