use Rattle.std.proofs.Common.{◌∙◌, ap, arith, sym}
use Rattle.std.proofs.lemmas.List.{length-map}
use Rattle.dtx_model.specs.Words.{past_of}
use Rattle.dtx_model.specs.Scopes.{completed_in, with_complete}
use Rattle.dtx_model.proofs.Scopes.{finishes-scopes}
use Rattle.scope_context.specs.Standing.{Standing}
use Rattle.scope_context.proofs.Entries.{distinct-complete, map-past}
use Rattle.scope_context.proofs.context.Context.complete.Goals as goal

pub invariant_of-self : goal.invariant_of-self
invariant_of-self c =
    let s = c.args.s.value in
    let xs = c.self.inside.scopes.items in (
      omega arith,
      omega arith,
      rw (c.complete.ensures.items, length-map) c.self.invariant.2,
      rw (c.complete.ensures.items, map-past (completed_in s) xs, distinct-complete s (past_of xs)) c.self.invariant.3,
    )

pub returns-clause-completed : goal.returns-clause-completed
returns-clause-completed c =
    let s = c.args.s.value in
    let xs = c.self.inside.scopes.items in
    ap past_of c.complete.ensures.items ∙ map-past (completed_in s) xs ∙ ap (λ (v : Standing). with_complete s v.scopes) c.self.view_is

pub returns-clause-entries : goal.returns-clause-entries
returns-clause-entries c = λ es same.
    let s = c.args.s.value in
    let xs = c.self.inside.scopes.items in
    finishes-scopes c.args.s es ∙ ap (with_complete s) same ∙ ap (λ (v : Standing). with_complete s v.scopes) (sym c.self.view_is)
    ∙ sym (map-past (completed_in s) xs) ∙ ap past_of (sym c.complete.ensures.items)
