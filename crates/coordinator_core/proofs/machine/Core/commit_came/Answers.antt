use Rattle.std.proofs.Common.{◌∙◌, Bool, ap}
use Rattle.dtx_model.specs.Coordinated.{is_active}
use Rattle.coordinator_core.specs.contracts.machine.Core.{the_view}
use Rattle.coordinator_core.specs.Kept.{Kept}
use Rattle.coordinator_core.proofs.Aborting.{commit_all, noted}
use Rattle.coordinator_core.proofs.machine.Core.commit_came.Goals as goal

pub returns-clause-kept : goal.returns-clause-kept
returns-clause-kept c =
    let inside : Kept = the_view c.self.inside in
    ap (λ (b : Bool). noted b inside) c.is_active.ensures ∙ ap (λ (s : Kept). noted (is_active s.state.stage) s) c.self.view_is ∙ commit_all c.args.self.now
