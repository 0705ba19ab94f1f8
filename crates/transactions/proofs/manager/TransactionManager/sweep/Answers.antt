use Rattle.std.proofs.Common.{◌≡◌, inr, subst, sym}
use Rattle.transactions.specs.Ending.{IsOver}
use Rattle.transactions.specs.State.{LiveState}
use Rattle.transactions.specs.declared.usage.Usage.TheVariants.{Left}
use Rattle.transactions.proofs.Nexts.{one_at}
use Rattle.transactions.proofs.manager.TransactionManager.sweep.Goals as goal

pub returns-then-is_over-clause-swept : goal.returns-then-is_over-clause-swept
returns-then-is_over-clause-swept g c = λ x at.
    let xs = c.args.self.now.lives in
    let over = c.is_over.ensures.over c.if-is_over.true in
    let left : c.in-Some.live.now ≡ x = one_at c.args.t xs c.in-Some.live.now x (sym c.in-Some.ensures) at in
    inr (c.take_off.ensures.gone, subst (λ (v : LiveState). IsOver v) (one_at c.args.t xs over.0 x over.1 at) over.2, subst (λ (v : LiveState). v.usage ≡ Left) left (sym c.in-Left.ensures))
