use Rattle.std.proofs.Common.{◌≡◌, ◌∙◌, ◌&&◌, false, ap, arith, length, sym}
use Rattle.std.proofs.lemmas.Bool.{and_left, and_right}
use Rattle.dtx_model.specs.Coordinated.{accepts, is_enlisting}
use Rattle.coordinator_core.specs.Kept.{Kept}
use Rattle.coordinator_core.proofs.Room.{desks_more, desks_same}
use Rattle.coordinator_core.proofs.machine.Core.desks_after.Goals.{else-accepts-via-then-accepts+else-is_enlisting, else-accepts-via-else-accepts}
use Rattle.coordinator_core.proofs.machine.Core.desks_after.Goals as goal

pub returns-then-is_enlisting : goal.returns-then-is_enlisting
returns-then-is_enlisting c =
    let k = c.args.self.now.state in
    omega (arith, desks_more k c.args.c c.args.m (sym c.is_enlisting.ensures ∙ c.if-is_enlisting.true) (sym c.accepts.ensures ∙ c.if-accepts.true), c.len-count.ensures.value, ap (λ (s : Kept). length s.state.desks) c.self.view_is)

pub returns-else-accepts : goal.returns-else-accepts
returns-else-accepts c =
    let k = c.args.self.now.state in
    let fails : (accepts k && is_enlisting c.args.c c.args.m) ≡ false = elim c.else-accepts.branch [
      | else-accepts-via-then-accepts+else-is_enlisting w ↦ and_right (accepts k) (is_enlisting c.args.c c.args.m) (sym w.is_enlisting.ensures ∙ w.if-is_enlisting.false)
      | else-accepts-via-else-accepts w ↦ and_left (accepts k) (is_enlisting c.args.c c.args.m) (sym c.accepts.ensures ∙ w.if-accepts.false)
    ] in
    c.len-count.ensures.value ∙ ap (λ (s : Kept). length s.state.desks) c.self.view_is ∙ sym (desks_same k c.args.c c.args.m fails)
