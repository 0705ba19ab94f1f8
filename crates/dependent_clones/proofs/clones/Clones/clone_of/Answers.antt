use Rattle.std.proofs.Common.{◌≡◌, ◌∙◌, true, false, rules, subst, sym}
use Rattle.dtx_values.specs.declared.row.CloneRow.{CloneRow}
use Rattle.dependent_clones.specs.Refusals.{kind_of}
use Rattle.dependent_clones.specs.Distinct.{distinct}
use Rattle.dependent_clones.proofs.Distinct.{distinct-more}
use Rattle.dependent_clones.proofs.clones.Clones.clone_of.Goals as goal

pub invariant_of-self : goal.invariant_of-self
invariant_of-self c =
    let rs = c.args.self.now in
    let r : CloneRow = record { clone = c.args.c; kind = kind_of c.args.block; complete = false } in
    let apart = subst (λ rs. distinct rs ≡ true) c.self.view_is c.self.invariant.2 in
    (search rules, search rules, search (rules, distinct-more r rs (sym c.stands.ensures ∙ c.if-stands.false) apart))
