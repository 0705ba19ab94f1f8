use Rattle.std.proofs.Common.{◌∙◌, ◌&&◌, ap, List}
use Rattle.dtx_model.specs.declared.branch.Branch.{Branch}
use Rattle.dtx_model.specs.Words.{has}
use Rattle.world_parts.specs.Managers.{is_by}
use Rattle.world_parts.proofs.OfManager.{has_filter}
use Rattle.world_parts.proofs.managers.has_accepted.Goals as goal

pub returns : goal.returns
returns c =
    c.is_any_accepted.ensures ∙ ap (λ (xs : List Branch). has (λ b. is_by c.args.r b && b.enlisted) xs) c.branches.ensures ∙ has_filter (λ b. b.enlisted) (is_by c.args.r) c.args.half.now.half.seen.branches
