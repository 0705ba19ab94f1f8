use Rattle.std.proofs.Common.{◌∙◌, ap, sym}
use Rattle.std.proofs.lemmas.List.Edits.{map_over_more}
use Rattle.dtx_model.specs.declared.desk.Desk.{Desk}
use Rattle.dtx_model.specs.Coordinated.{with_ack}
use Rattle.coordinator_core.proofs.desks.acknowledge_in.Goals as goal

pub loop-d-preserved : goal.loop-d-preserved
loop-d-preserved c =
    let f : Desk → Desk = with_ack c.args.e.value in
    rw (c.acknowledge_at.ensures ∙ ap f (sym c.d-item.is)) (map_over_more f c.args.desks.now c.loop-d.desks c.loop-d.d-index c.d-item.result c.loop-d-test.true c.loop-d.invariant c.d-item.is)
