use Rattle.std.proofs.Common.{◌∙◌, ap}
use Rattle.dtx_model.specs.Coordinated.{abort_sends, follow_all}
use Rattle.coordinator_core.specs.Kept.{Kept}
use Rattle.coordinator_core.proofs.Aborting.{aborted, full_all}
use Rattle.coordinator_core.proofs.Causes.{active_then}
use Rattle.coordinator_core.proofs.machine.Core.log_full.Goals as goal

pub returns-clause-state : goal.returns-clause-state
returns-clause-state c =
    let k = c.args.self.now.state in
    c.tell_abort.ensures.state ∙ ap (λ (s : Kept). follow_all (aborted s.state) (abort_sends (aborted s.state))) c.self.view_is ∙ full_all k (active_then k c.requires.pending)
