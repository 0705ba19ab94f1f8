use Rattle.std.proofs.Common.{◌∙◌, ap, sym}
use Rattle.std.proofs.lemmas.List.Edits.{map_over_more}
use Rattle.oletx_session.specs.Queues.{stopped_link}
use Rattle.oletx_session.proofs.link.stop_all.Goals as goal

pub loop-link-preserved : goal.loop-link-preserved
loop-link-preserved c =
    let old = c.deref_mut-link-items.result.now in
    rw (c.stopped.ensures ∙ ap stopped_link (sym c.link-item.is)) (map_over_more stopped_link old c.loop-link.link-items c.loop-link.link-index c.link-item.result c.loop-link-test.true c.loop-link.invariant c.link-item.is)
