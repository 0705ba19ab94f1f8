use Rattle.std.proofs.Common.{◌≡◌, Bool, Result, Some, false, true, subst, sym, ◌∙◌}
use Rattle.std.specs.Prelude.{IfOk}
use Rattle.dtx_model.specs.Steps.{pending}
use Rattle.dtx_model.specs.Words.{kth}
use Rattle.tx_world.specs.Stepping.{reply_in}
use Rattle.tx_cells.specs.declared.error.TurnError.{TurnError}
use Rattle.tx_cells.specs.Turns.{is_due}
use Rattle.run_endings.proofs.Settling.{is_due_first}
use Rattle.turn_parts.proofs.Settling.{none_first}
use Rattle.run_endings.proofs.finishing.settling.step.Goals as goal

pub returns-in_default-clause-none : goal.returns-in_default-clause-none
returns-in_default-clause-none g c = λ no. let none = c.do_step_with.ensures.none no in (none_first (pending c.args.state.now.tx.world) none.0, none.1)

pub returns-in-Some-ask-clause-none : goal.returns-in-Some-ask-clause-none
returns-in-Some-ask-clause-none g c = λ no.
    let w = c.args.state.now.tx.world in
    let first : reply_in w (kth (pending w) 1) ≡ Some (c.in-Some.e, c.in-Some.n) = sym c.due_at.ensures ∙ c.in-Some.is in
    let due : is_due w (c.in-Some.e, c.in-Some.n) ≡ true = is_due_first w (c.in-Some.e, c.in-Some.n) first in
    let not : false ≡ is_due w (c.in-Some.e, c.in-Some.n) = subst (λ (r : Result Bool TurnError). IfOk r (λ b. b ≡ is_due w (c.in-Some.e, c.in-Some.n))) no c.take_back_with.ensures.taken.due in
    let clash : false ≡ true = not ∙ due in
    absurd (cc)
