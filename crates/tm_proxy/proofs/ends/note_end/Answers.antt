use Rattle.std.proofs.Common.{◌∙◌, ap, sym}
use Rattle.std.proofs.lemmas.List.Edits.{map_over_more}
use Rattle.dtx_values.specs.declared.end.End.{End}
use Rattle.dtx_values.specs.Ends.{note_end}
use Rattle.tm_proxy.proofs.ends.note_end.Goals as goal

pub loop-n-preserved : goal.loop-n-preserved
loop-n-preserved c =
    let f : End → End = note_end c.args.c in
    rw (c.note_end_at.ensures ∙ ap f (sym c.n-item.is)) (map_over_more f c.args.ends.now c.loop-n.ends c.loop-n.n-index c.n-item.result c.loop-n-test.true c.loop-n.invariant c.n-item.is)
