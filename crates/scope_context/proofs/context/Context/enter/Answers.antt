use Rattle.std.proofs.Common.{◌≡◌, ◌∷◌, ◌∙◌, ap, false, sym}
use Rattle.dtx_values.specs.declared.scope.OpenScope.{OpenScope}
use Rattle.dtx_model.specs.Words.{past_of}
use Rattle.dtx_model.proofs.Histories.{past_of-snoc}
use Rattle.dtx_model.proofs.Scopes.{opens-scopes}
use Rattle.scope_context.specs.Standing.{Standing}
use Rattle.scope_context.proofs.context.Context.enter.Goals as goal

pub returns-clause-entries : goal.returns-clause-entries
returns-clause-entries c = λ es same.
    let x : OpenScope = record { scope = c.args.s; entered = c.entering-entered.result; isolation = c.args.iso; complete = false } in
    let opened : past_of c.push_reserved.new.self.items ≡ x ∷ c.args.self.now.scopes =
    ap past_of c.push_reserved.ensures.items ∙ past_of-snoc c.self.inside.scopes.items x ∙ ap (λ (v : Standing). x ∷ v.scopes) c.self.view_is in
    opens-scopes c.args.s c.entering-entered.result c.args.iso es ∙ ap (λ xs. x ∷ xs) same ∙ sym opened
