use Rattle.std.proofs.Common.{◌≡◌, true, false, rules, arith, sym, ◌∙◌}
use Rattle.run_endings.proofs.Left.{no_next_at_log, none_more}
use Rattle.run_endings.proofs.finishing.entering.enter_all.Goals as goal

pub loop-n-preserved : goal.loop-n-preserved
loop-n-preserved g c =
    let did = c.in_ok-enter_actor.ensures in
    let at : c.unwrap-a.result.value ≡ c.loop-n.n = search rules in
    record {
      none = none_more c.loop-n.n c.unwrap-a.result c.loop-n.states c.enter_actor.new.states c.loop-n.log c.enter_actor.new.log at c.loop-n.invariant.none did.none did.others;
      numbers = did.numbers ∙ c.loop-n.invariant.numbers;
    }

pub prove-unreachable-requires : goal.prove-unreachable-requires
prove-unreachable-requires g c =
    let said = c.are_entered.ensures in
    let past = c.loop-n-test.false in
    let all = said.none (λ a. no_next_at_log a c.loop-n.states c.loop-n.log (c.loop-n.invariant.none a (let most = a.in_range.1 in omega (arith, most, past)))) in
    let clash : true ≡ false = sym (said.value ∙ all) ∙ c.if-prove.true in
    absurd (cc)
