use Rattle.std.proofs.Common.{◌∙◌, ap, sym, Some}
use Rattle.std.proofs.lemmas.List.Edits.{map_over_more}
use Rattle.dtx_model.specs.declared.desk.Desk.{Desk}
use Rattle.dtx_model.specs.Coordinated.{with_ballot}
use Rattle.coordinator_core.proofs.desks.vote.Goals as goal

pub loop-d-preserved : goal.loop-d-preserved
loop-d-preserved c =
    let f : Desk → Desk = with_ballot c.args.e.value (Some c.args.b) in
    rw (c.vote_at.ensures ∙ ap f (sym c.d-item.is)) (map_over_more f c.args.desks.now c.loop-d.desks c.loop-d.d-index c.d-item.result c.loop-d-test.true c.loop-d.invariant c.d-item.is)
