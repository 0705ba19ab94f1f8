use Rattle.std.proofs.Common.{◌≡◌, ◌==◌, List, false, not, true, arith, rules, ap, sym, subst, ◌∙◌}
use Rattle.dtx_values.specs.declared.number.TxNo.{TxNo}
use Rattle.dtx_model.specs.Grammar.{OfTransaction, is_made}
use Rattle.tx_cells.specs.Cell.{Cell}
use Rattle.run_endings.proofs.ByNumber.{IsRest, rest_first, rest_last, rest_next, rest_other, rest_passed, rest_short}
use Rattle.run_endings.proofs.finishing.testing.are_by_number.Goals as goal

pub loop-n-init : goal.loop-n-init
loop-n-init g c = rest_first c.args.s.now c.args.states.now

pub loop-n-preserved-then-not-has : goal.loop-n-preserved-then-not-has
loop-n-preserved-then-not-has g c =
    let at : c.unwrap-t.result.value ≡ c.loop-n.n = search rules in
    let not : is_made c.args.s.now (OfTransaction c.loop-n.n) ≡ false = sym (ap (λ m. is_made c.args.s.now (OfTransaction m)) at) ∙ (sym (c.of-made.ensures c.unwrap-t.result) ∙ sym c.if-not-has.ensures) in
    rest_passed c.args.s.now c.args.states.now c.loop-n.rest.now c.loop-n.n (omega (arith, c.loop-n-test.true)) not c.loop-n.invariant

pub returns-in_default : goal.returns-in_default
returns-in_default g c =
    let at : c.unwrap-t.result.value ≡ c.loop-n.n = search rules in
    let made : is_made c.args.s.now (OfTransaction c.loop-n.n) ≡ true = sym (ap (λ m. is_made c.args.s.now (OfTransaction m)) at) ∙ (sym (c.of-made.ensures c.unwrap-t.result) ∙ sym c.if-not-has.ensures) in
    (λ e. absurd (cc), λ e. absurd (rest_short c.args.s.now c.args.states.now c.loop-n.rest.now c.loop-n.n (omega (arith, c.loop-n-test.true)) made c.in_default.ensures.cases c.loop-n.invariant e))

pub returns-then-ne : goal.returns-then-ne
returns-then-ne g c =
    let at : c.unwrap-t.result.value ≡ c.loop-n.n = search rules in
    let made : is_made c.args.s.now (OfTransaction c.loop-n.n) ≡ true = sym (ap (λ m. is_made c.args.s.now (OfTransaction m)) at) ∙ (sym (c.of-made.ensures c.unwrap-t.result) ∙ sym c.if-not-has.ensures) in
    let rest = subst (λ (cells : List Cell). IsRest c.args.s.now c.args.states.now cells c.loop-n.n) c.in-Some.ensures.cases.0 c.loop-n.invariant in
    let other : not (c.in-Some.first.now.tx.transaction.t.value == c.loop-n.n) ≡ true =
    sym (ap (λ n. not (c.in-Some.first.now.tx.transaction.t.value == n)) at) ∙ (sym (ap (λ (t : TxNo). not (t.value == c.unwrap-t.result.value)) c.t.ensures.t) ∙ sym c.if-ne.ensures) in
    (λ e. absurd (cc), λ e. absurd (rest_other c.args.s.now c.args.states.now c.in-Some.others.now c.in-Some.first.now c.loop-n.n (omega (arith, c.loop-n-test.true)) made other rest e))

pub loop-n-preserved : goal.loop-n-preserved
loop-n-preserved g c =
    let at : c.unwrap-t.result.value ≡ c.loop-n.n = search rules in
    let made : is_made c.args.s.now (OfTransaction c.loop-n.n) ≡ true = sym (ap (λ m. is_made c.args.s.now (OfTransaction m)) at) ∙ (sym (c.of-made.ensures c.unwrap-t.result) ∙ sym c.if-not-has.ensures) in
    let rest = subst (λ (cells : List Cell). IsRest c.args.s.now c.args.states.now cells c.loop-n.n) c.in-Some.ensures.cases.0 c.loop-n.invariant in
    let same : not (c.in-Some.first.now.tx.transaction.t.value == c.loop-n.n) ≡ false =
    sym (ap (λ n. not (c.in-Some.first.now.tx.transaction.t.value == n)) at) ∙ (sym (ap (λ (t : TxNo). not (t.value == c.unwrap-t.result.value)) c.t.ensures.t) ∙ sym c.if-ne.ensures) in
    rest_next c.args.s.now c.args.states.now c.in-Some.others.now c.in-Some.first.now c.loop-n.n (omega (arith, c.loop-n-test.true)) made same rest

pub returns : goal.returns
returns g c =
    let last = rest_last c.args.s.now c.args.states.now c.loop-n.rest.now c.loop-n.n (omega (arith, c.loop-n-test.false)) c.loop-n.invariant in
    (λ e. last.0 (sym c.is_empty.ensures ∙ e), λ e. c.is_empty.ensures ∙ last.1 e)
