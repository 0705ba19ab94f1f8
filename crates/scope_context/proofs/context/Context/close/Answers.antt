use Rattle.std.proofs.Common.{◌≡◌, ◌∙◌, arith, ap, length, subst, sym, true}
use Rattle.std.proofs.lemmas.Grind.{common_steps}
use Rattle.dtx_model.specs.Words.{past_of}
use Rattle.dtx_model.specs.Scopes.{beneath}
use Rattle.scope_context.specs.Standing.{Standing, distinct}
use Rattle.scope_context.proofs.Entries.{closes-taken, distinct-beneath, length-beneath}
use Rattle.dtx_model.proofs.Pasts.{length-past}
use Rattle.scope_context.proofs.context.Context.close.Goals as goal

pub returns-then-eq-clause-entries : goal.returns-then-eq-clause-entries
returns-then-eq-clause-entries c = λ es same there.
    let s = c.args.s.value in
    let apart : distinct c.args.self.now.scopes ≡ true = subst (λ (v : Standing). distinct v.scopes ≡ true) c.self.view_is c.self.invariant.3 in
    let left : beneath s c.args.self.now.scopes ≡ past_of c.pop.new.self.items = grind (arith, common_steps) in
    closes-taken s c.args.self.now.scopes es same apart ∙ left

pub invariant_of-self-2 : goal.invariant_of-self-2
invariant_of-self-2 c =
    let s = c.args.s.value in
    let xs = c.self.inside.scopes.items in
    let ys = c.take_off.new.scopes.items in (
      omega arith,
      omega arith,
      omega (arith, length-past ys, ap length c.take_off.ensures.left, length-beneath s (past_of xs), length-past xs),
      rw c.take_off.ensures.left (distinct-beneath s (past_of xs) c.self.invariant.3),
    )

pub returns-clause-entries : goal.returns-clause-entries
returns-clause-entries c = λ es same there.
    let s = c.args.s.value in
    let apart : distinct c.args.self.now.scopes ≡ true = subst (λ (v : Standing). distinct v.scopes ≡ true) c.self.view_is c.self.invariant.3 in
    closes-taken s c.args.self.now.scopes es same apart ∙ ap (λ (v : Standing). beneath s v.scopes) (sym c.self.view_is) ∙ sym c.take_off.ensures.left
