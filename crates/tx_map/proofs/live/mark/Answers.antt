use Rattle.std.proofs.Common.{◌<◌, length, set, arith, sym, ap, ◌∙◌}
use Rattle.std.proofs.lemmas.List.Edits.{map_over_more}
use Rattle.tx_map.specs.Notes.{marked}
use Rattle.tx_map.proofs.live.mark.Goals as goal

pub loop-w-preserved : goal.loop-w-preserved
loop-w-preserved c =
    let lt : c.loop-w.w-index < length c.args.live.now = omega arith in
    ap (λ x. set c.loop-w.live c.loop-w.w-index x) (c.marked.ensures ∙ ap (marked (c.args.t, c.args.e)) (sym c.w-item.is))
    ∙ map_over_more (marked (c.args.t, c.args.e)) _ _ _ _ lt c.loop-w.invariant c.w-item.is
