use Rattle.std.proofs.Common.{◌∙◌, ap, sym}
use Rattle.std.proofs.lemmas.List.Edits.{map_over_more}
use Rattle.dtx_values.specs.declared.row.CloneRow.{CloneRow}
use Rattle.dependent_clones.specs.Distinct.{complete_in}
use Rattle.dependent_clones.proofs.clones.complete.Goals as goal

pub loop-r-preserved : goal.loop-r-preserved
loop-r-preserved c =
    let f : CloneRow → CloneRow = λ r. complete_in c.args.c.value r in
    let old = c.deref_mut-r-items.result.now in
    rw (c.complete_in.ensures ∙ ap f (sym c.r-item.is)) (map_over_more f old c.loop-r.r-items c.loop-r.r-index c.r-item.result c.loop-r-test.true c.loop-r.invariant c.r-item.is)
