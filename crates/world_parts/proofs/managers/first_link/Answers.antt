use Rattle.std.proofs.Common.{◌∙◌, ◌&&◌, ap, List}
use Rattle.std.specs.Prelude.{find}
use Rattle.dtx_model.specs.declared.branch.Branch.{Branch}
use Rattle.world_parts.specs.Managers.{is_by, is_open_link}
use Rattle.world_parts.proofs.OfManager.{find_filter}
use Rattle.world_parts.proofs.managers.first_link.Goals as goal

pub returns : goal.returns
returns c =
    let o = c.args.half.now.half.seen in
    let p = is_open_link o c.args.history.now.past in
    c.first_of.ensures ∙ ap (λ (xs : List Branch). find (λ b. is_by c.args.r b && p b) xs) c.branches.ensures ∙ find_filter p (is_by c.args.r) o.branches
