use Rattle.std.proofs.Common.{◌∙◌, ap, sym}
use Rattle.std.proofs.lemmas.Bool.{and_left, and_right}
use Rattle.dtx_model.specs.Coordinated.{is_undecided}
use Rattle.coordinator_core.specs.Kept.{Kept}
use Rattle.coordinator_core.proofs.Aborting.{nothing_done}
use Rattle.coordinator_core.proofs.machine.Core.abort_if.Goals.{else-is_cause-via-then-is_cause+else-is_undecided, else-is_cause-via-else-is_cause}
use Rattle.coordinator_core.proofs.machine.Core.abort_if.Goals as goal

pub returns-else-is_cause-clause-state : goal.returns-else-is_cause-clause-state
returns-else-is_cause-clause-state c =
    let b = c.args.is_cause in
    let k = c.args.self.now.state in
    nothing_done b k (elim c.else-is_cause.branch [
      | else-is_cause-via-then-is_cause+else-is_undecided w ↦
          and_right b (is_undecided k.stage) (sym (ap (λ (s : Kept). is_undecided s.state.stage) w.self.view_is) ∙ sym w.is_undecided.ensures ∙ w.if-is_undecided.false)
      | else-is_cause-via-else-is_cause w ↦ and_left b (is_undecided k.stage) w.if-is_cause.false
    ])
