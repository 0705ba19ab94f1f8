use Rattle.std.proofs.Common.{◌∙◌, ap, sym}
use Rattle.std.proofs.lemmas.List.Edits.{map_over_more}
use Rattle.dtx_values.specs.declared.end.End.{End}
use Rattle.dtx_values.specs.Ends.{note_got, tag_of}
use Rattle.tm_proxy.proofs.ends.note_got.Goals as goal

pub loop-n-preserved : goal.loop-n-preserved
loop-n-preserved c =
    let f : End → End = note_got c.args.c (tag_of c.args.m.now) in
    rw (c.note_got_at.ensures ∙ ap f (sym c.n-item.is)) (map_over_more f c.args.ends.now c.loop-n.ends c.loop-n.n-index c.n-item.result c.loop-n-test.true c.loop-n.invariant c.n-item.is)
