use Rattle.std.proofs.Common.{◌≡◌, true, false, sym, ◌∙◌}
use Rattle.run_endings.proofs.Left.{no_next}
use Rattle.run_endings.proofs.finishing.entering.each_is_entered.Goals as goal

pub prove-unreachable-requires : goal.prove-unreachable-requires
prove-unreachable-requires g c =
    let said = c.are_entered.ensures in
    let all = said.none (λ a. no_next a c.args.states.now c.loop-state.state-index c.state-item.result (c.requires a) c.loop-state-test.true c.state-item.is) in
    let clash : true ≡ false = sym (said.value ∙ all) ∙ c.if-prove.true in
    absurd (cc)
