use Rattle.std.proofs.Common.{arith, ap, Ok, ℕ, ◌∙◌}
use Rattle.slotted.proofs.Heads.{differs, goes_same, all_same}
use Rattle.slotted.proofs.bytes.same.Goals as goal

pub returns-then-want-i-clause-same : goal.returns-then-want-i-clause-same
returns-then-want-i-clause-same c = differs _ _ _ (omega arith) c.loop-i-test.true c.if-want-i.true c.loop-i.invariant

pub loop-i-preserved : goal.loop-i-preserved
loop-i-preserved c = goes_same _ _ _ (omega arith) c.loop-i-test.true c.if-want-i.false c.loop-i.invariant

pub returns-clause-same : goal.returns-clause-same
returns-clause-same c = all_same _ _ _ (omega arith) c.loop-i.invariant ∙ ap (λ (n : ℕ). Ok n) (omega arith)
