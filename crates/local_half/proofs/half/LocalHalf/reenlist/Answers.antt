use Rattle.std.proofs.Common.{◌≡◌, ◌∙◌, None, List, Some, find, ap, refl, sym}
use Rattle.dtx_model.specs.declared.branch.Branch.{Branch}
use Rattle.dtx_model.specs.Observed.{branch_due, is_branch, track}
use Rattle.dtx_model.specs.Half.{heeds_all}
use Rattle.dtx_model.specs.Words.{has}
use Rattle.dtx_model.proofs.Passing.{has-map}
use Rattle.half_parts.specs.Half.{Known}
use Rattle.half_parts.proofs.Links.{found_branch}
use Rattle.local_half.proofs.half.LocalHalf.reenlist.Goals as goal

pub write-requires-in-Some-clause-taken : goal.write-requires-in-Some-clause-taken
unfolding heeds_all track
write-requires-in-Some-clause-taken c =
    let f = c.in-Some.b.enlistment.value in
    let bs = c.args.self.now.half.seen.branches in
    let same : c.deref.result.now ≡ bs = c.deref.ensures.value ∙ ap (λ (k : Known). k.half.seen.branches) c.self.view_is in
    let found : find (is_branch c.args.e.value) bs ≡ Some c.in-Some.b = ap (λ (xs : List Branch). find (is_branch c.args.e.value) xs) (sym same) ∙ sym c.branch_of.ensures ∙ c.in-Some.is in
    ap (λ (k : Known). has (is_branch f) k.half.seen.branches) c.write.ensures.state ∙ has-map (is_branch f) (branch_due f None) (λ b. refl) bs ∙ found_branch c.args.e.value bs c.in-Some.b found
