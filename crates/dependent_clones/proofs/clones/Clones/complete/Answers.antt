use Rattle.std.proofs.Common.{◌≡◌, ◌∙◌, true, arith, subst, sym}
use Rattle.std.proofs.lemmas.List.{length-map}
use Rattle.dependent_clones.specs.Distinct.{distinct}
use Rattle.dependent_clones.proofs.Distinct.{complete-absent, complete-again, distinct-complete}
use Rattle.dependent_clones.proofs.clones.Clones.complete.Goals as goal

pub invariant_of-self : goal.invariant_of-self
invariant_of-self c =
    let rs = c.self.inside.rows.items in
    (omega arith, rw (c.complete.ensures.items, length-map) c.self.invariant.1, rw c.complete.ensures.items (rw (distinct-complete c.args.c.value rs) c.self.invariant.2))

pub returns-then-not-stands-clause-completed : goal.returns-then-not-stands-clause-completed
returns-then-not-stands-clause-completed c = sym (complete-absent c.args.c.value c.args.self.now (sym c.stands.ensures ∙ c.if-not-stands.true))

pub returns-then-is_complete-clause-completed : goal.returns-then-is_complete-clause-completed
returns-then-is_complete-clause-completed c =
    let apart = subst (λ rs. distinct rs ≡ true) c.self.view_is c.self.invariant.2 in
    sym (complete-again c.args.c.value c.args.self.now apart (sym c.is_complete.ensures ∙ c.if-is_complete.true))
