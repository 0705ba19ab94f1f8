use Rattle.std.proofs.Common.{◌∙◌, ap, sym}
use Rattle.std.proofs.lemmas.List.Edits.{map_over_more}
use Rattle.dtx_model.specs.declared.branch.Branch.{Branch}
use Rattle.half_parts.specs.Branches.{changed}
use Rattle.half_parts.proofs.branches.change_all.Goals as goal

pub loop-b-preserved : goal.loop-b-preserved
loop-b-preserved c =
    let f : Branch → Branch = changed c.args.e.value c.args.x in
    rw (c.change_one.ensures ∙ ap f (sym c.b-item.is)) (map_over_more f c.args.branches.now c.loop-b.branches c.loop-b.b-index c.b-item.result c.loop-b-test.true c.loop-b.invariant c.b-item.is)
