use Rattle.std.proofs.Common.{◌≡◌, ◌-◌, ◌∷◌, ◌++◌, List, ap, arith, set, subst, sym, ◌∙◌}
use Rattle.dtx_values.specs.declared.scope.OpenScope.{OpenScope}
use Rattle.dtx_model.specs.Contexts.{scope_entries}
use Rattle.dtx_model.specs.Scopes.{ScopeEntry, open_scopes}
use Rattle.dtx_model.specs.Words.{onto}
use Rattle.dtx_values.specs.declared.entry.Entry.{Entry}
use Rattle.dtx_values.specs.declared.entry.Entry.TheVariants.{Called}
use Rattle.entry_lists.specs.Held.{Held}
use Rattle.scope_context.specs.Standing.{Standing}
use Rattle.script_calls.specs.Scoped.{AreOpen, DoesScope, scopes_at, scopes_in}
use Rattle.script_calls.proofs.Openings.{context_here, open_after}
use Rattle.thread_runs.proofs.AtContexts.{scope_line}
use Rattle.thread_runs.proofs.contexts.at_context.Goals as goal

pub returns-clause-written : goal.returns-clause-written
returns-clause-written c = λ before number open_at was.
    let done : DoesScope c.args.l.now.body c.index-contexts-place.result c.act.new.context c.act.new.entries.items c.in-Some.acted =
    subst (λ (x : Standing). DoesScope c.args.l.now.body x c.act.new.context c.act.new.entries.items c.in-Some.acted) (sym c.index-contexts-place.is) c.in-Some.ensures.some in
    let did = subst (λ (es : List Entry). DoesScope c.args.l.now.body c.index-contexts-place.result c.act.new.context es c.in-Some.acted) (sym c.deref.ensures.value) done in
    let put = c.in_ok-write.ensures ∙ ap (λ (h : Held). h.items ++ Called c.args.n c.args.l.now.actor c.in-Some.acted.answer ∷ c.deref.result.now) (sym c.index-written-place.is) in
    scope_line c.args.written.now c.args.contexts.now before c.args.l.now c.args.n c.index-place.result c.index-written-place.result c.write.new.context c.index-contexts-place.result c.act.new.context c.deref.result.now
    c.in-Some.acted c.requires.lists c.requires.all c.index-place.ensures.place c.index-written-place.is c.index-contexts-place.is did put number open_at was

pub returns-clause-scopes : goal.returns-clause-scopes
returns-clause-scopes c =
    let a = c.args.l.now.actor in
    let cs = c.args.contexts.now in
    let did : DoesScope c.args.l.now.body c.index-contexts-place.result c.act.new.context c.act.new.entries.items c.in-Some.acted =
    subst (λ (x : Standing). DoesScope c.args.l.now.body x c.act.new.context c.act.new.entries.items c.in-Some.acted) (sym c.index-contexts-place.is) c.in-Some.ensures.some in
    let here : c.index-contexts-place.result.scopes ≡ scopes_at a cs =
    ap scopes_in (sym (context_here cs a c.index-place.result c.index-contexts-place.result c.requires.all c.index-place.ensures.place c.index-contexts-place.is)) in
    λ before ties.
    let place : a.value - 1 ≡ c.index-place.result = omega (arith, c.index-place.ensures.place) in
    subst (λ n. AreOpen (set cs n c.act.new.context) (c.args.l.now ∷ before)) place
    (open_after cs before c.args.l.now c.act.new.context c.requires.all
    (subst (λ (xs : List OpenScope). (es : List ScopeEntry) → open_scopes es ≡ xs → open_scopes (onto es (scope_entries c.args.l.now.body xs)) ≡ c.act.new.context.scopes) here did.scopes)
    ties)
