use Rattle.history_judge.specs.Judge.{IsNotJustifiedAt, IsDisagreementAt}
use Rattle.history_judge.proofs.Faults.{good_at_first, good_more, not_just_at, disagrees_at, not_fine, no_agreement}
use Rattle.history_judge.proofs.verdict.judge.Goals as goal

pub loop-i-init : goal.loop-i-init
loop-i-init c = good_at_first c.args.h.now

pub loop-i-preserved : goal.loop-i-preserved
loop-i-preserved c = good_more c.args.h.now c.loop-i.i c.index-h-i.result c.loop-i-test.true c.index-h-i.is c.loop-i.invariant c.if-not-is_just.ensures c.if-not-agrees.ensures

pub returns-then-not-is_just-clause-first : goal.returns-then-not-is_just-clause-first
returns-then-not-is_just-clause-first c = not_just_at c.args.h.now c.loop-i.i c.index-h-i.result c.loop-i-test.true c.index-h-i.is c.loop-i.invariant c.if-not-is_just.ensures

pub returns-then-not-agrees-clause-first : goal.returns-then-not-agrees-clause-first
returns-then-not-agrees-clause-first c =
    disagrees_at c.args.h.now c.loop-i.i c.index-h-i.result c.loop-i-test.true c.index-h-i.is c.loop-i.invariant c.if-not-is_just.ensures c.if-not-agrees.ensures

pub returns-then-not-is_just-clause-fine : goal.returns-then-not-is_just-clause-fine
returns-then-not-is_just-clause-fine c =
    let w : IsNotJustifiedAt c.args.h.now c.loop-i.i = not_just_at c.args.h.now c.loop-i.i c.index-h-i.result c.loop-i-test.true c.index-h-i.is c.loop-i.invariant c.if-not-is_just.ensures in
    (λ e. absurd cc, λ p. absurd (not_fine c.args.h.now c.loop-i.i w p.0))

pub returns-then-not-agrees-clause-fine : goal.returns-then-not-agrees-clause-fine
returns-then-not-agrees-clause-fine c =
    let w : IsDisagreementAt c.args.h.now c.loop-i.i =
    disagrees_at c.args.h.now c.loop-i.i c.index-h-i.result c.loop-i-test.true c.index-h-i.is c.loop-i.invariant c.if-not-is_just.ensures c.if-not-agrees.ensures in
    (λ e. absurd cc, λ p. absurd (no_agreement c.args.h.now c.loop-i.i w p.1))
