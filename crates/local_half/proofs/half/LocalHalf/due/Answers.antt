use Rattle.std.proofs.Common.{◌≡◌, ◌-◌, ◌∙◌, List, Some, ap, arith, drop, map, slice_get, sym}
use Rattle.dtx_values.specs.declared.row.Row.{Row}
use Rattle.dtx_model.specs.declared.branch.Branch.{Branch}
use Rattle.dtx_model.specs.Replies.{with_names}
use Rattle.half_parts.specs.Half.{Known, first_due, lower}
use Rattle.half_parts.proofs.Due.{first_more, first_of_all}
use Rattle.local_half.proofs.half.LocalHalf.due.Goals as goal

pub loop-i-preserved : goal.loop-i-preserved
loop-i-preserved c =
    let o = c.args.self.now.half.seen in
    let same : c.deref.result.now ≡ o.branches = c.deref.ensures.value ∙ ap (λ (k : Known). k.half.seen.branches) c.self.view_is in
    let here : slice_get o.branches (c.loop-i.i - 1) ≡ Some c.branch_at-b.result = ap (λ (bs : List Branch). slice_get bs (c.loop-i.i - 1)) (sym same) ∙ c.branch_at-b.ensures in
    (omega arith, c.lower-first.ensures ∙ ap (λ x. lower x c.loop-i.first) c.with_note.ensures ∙ first_more o c.loop-i.i c.branch_at-b.result c.loop-i.first c.rows_rise.ensures c.loop-i-test.true here c.loop-i.invariant.1)

pub returns : goal.returns
returns c =
    let o = c.args.self.now.half.seen in
    let zero : c.loop-i.i ≡ 0 = omega arith in
    c.loop-i.invariant.1 ∙ ap (λ n. first_due o (with_names (drop n o.branches) (map (λ (x : Row). x.number) o.table))) zero ∙ sym (first_of_all o)
