use Rattle.std.proofs.Common.{◌∙◌, ap, sym}
use Rattle.scope_context.specs.Refusals.{close_refusal}
use Rattle.scope_context.specs.Standing.{Standing}
use Rattle.transactions.proofs.Rolled.{top_closed}
use Rattle.transactions.proofs.manager.TransactionManager.close.Goals as goal

pub returns-in-Ok-clause-nested : goal.returns-in-Ok-clause-nested
returns-in-Ok-clause-nested g c = λ wrong.
    let alone = ap (λ (v : Standing). close_refusal c.args.s v.scopes) (sym c.a.view_is) ∙ c.in-Ok.ensures.allowed in
    let top = top_closed c.args.s c.args.a.now.scopes alone in
    absurd cc
