use Rattle.std.proofs.Common.{◌≡◌, ◌-◌, ◌∷◌, List, ap, arith, length, refl, set, subst, sym, ◌∙◌}
use Rattle.std.proofs.Math.ListN.{length-set}
use Rattle.dtx_values.specs.declared.scope.OpenScope.{OpenScope}
use Rattle.dtx_model.specs.Contexts.{scope_block, scope_calls, scope_entries}
use Rattle.dtx_model.specs.Scopes.{ScopeEntry, open_scopes}
use Rattle.dtx_model.specs.Traces.{noted}
use Rattle.dtx_model.specs.Words.{onto, past_of}
use Rattle.replay_runs.specs.RunState.{RunState}
use Rattle.script_calls.specs.Scoped.{AreOpen, DoesScope, calls_given, rolled_in, scopes_at, scopes_in}
use Rattle.dtx_model.proofs.Pasts.{length-past}
use Rattle.script_calls.proofs.Openings.{context_here, context_put, open_after}
use Rattle.script_calls.proofs.Scoping.{few_notes, noted_block}
use Rattle.replay_runs.proofs.replay.Run.at_context.Goals as goal

pub append-requires : goal.append-requires
append-requires c =
    let did : DoesScope c.args.l.now.body c.index_mut-context.result.now c.act.new.context c.act.new.entries.items c.in-Some.acted = c.in-Some.ensures.some in
    let few = few_notes _ _ _ _ _ did in
    let many : length c.index_mut-context.result.now.scopes ≡ length c.scopes.result.now = ap length (sym c.scopes.ensures) ∙ length-past c.scopes.result.now in
    let notes : length c.deref.result.now ≡ length c.act.new.entries.items = ap length c.deref.ensures.value in
    omega (arith, few, many, notes, c.in_ok-reserve-2.ensures.room, c.push_reserved.ensures.room)

pub invariant_of-self-2 : goal.invariant_of-self-2
invariant_of-self-2 c = (c.self.invariant.0, rw length-set c.self.invariant.1, c.self.invariant.2, c.self.invariant.3, c.self.invariant.4)

pub returns-clause-block : goal.returns-clause-block
returns-clause-block c =
    let a = c.args.l.now.actor in
    let did : DoesScope c.args.l.now.body c.index_mut-context.result.now c.act.new.context c.act.new.entries.items c.in-Some.acted = c.in-Some.ensures.some in
    let block = noted_block c.self.inside.trace.items c.append.new.trace.items c.args.n a _ _ _ _ _ did
    (rw (c.append.ensures, c.deref.ensures.value, c.push_reserved.ensures.items, c.reserve-2.ensures.items) refl) in
    let here : c.index_mut-context.result.now.scopes ≡ scopes_at a c.args.self.now.contexts =
    ap scopes_in (sym (context_here c.self.inside.contexts.items a c.index.result c.index_mut-context.result.now c.self.invariant.1 c.index.ensures.place c.index_mut-context.ensures.value))
    ∙ ap (λ (r : RunState). scopes_at a r.contexts) c.self.view_is in
    block
    ∙ ap (λ (xs : List OpenScope). onto (past_of c.self.inside.trace.items) (noted a (scope_block c.args.n a c.args.l.now.body xs))) here
    ∙ ap (λ (r : RunState). onto (past_of r.trace) (noted a (scope_block c.args.n a c.args.l.now.body (scopes_at a c.args.self.now.contexts)))) c.self.view_is

pub returns-clause-calls : goal.returns-clause-calls
returns-clause-calls c =
    let a = c.args.l.now.actor in
    let did : DoesScope c.args.l.now.body c.index_mut-context.result.now c.act.new.context c.act.new.entries.items c.in-Some.acted = c.in-Some.ensures.some in
    let here : c.index_mut-context.result.now.scopes ≡ scopes_at a c.args.self.now.contexts =
    ap scopes_in (sym (context_here c.self.inside.contexts.items a c.index.result c.index_mut-context.result.now c.self.invariant.1 c.index.ensures.place c.index_mut-context.ensures.value))
    ∙ ap (λ (r : RunState). scopes_at a r.contexts) c.self.view_is in
    ap (calls_given c.in-Some.acted.gives) (ap rolled_in (context_put c.self.inside.contexts.items a c.index.result c.act.new.context c.self.invariant.1 c.index.ensures.place))
    ∙ did.gives
    ∙ ap (λ (xs : List OpenScope). scope_calls c.args.l.now.body xs) here

pub returns-clause-scopes : goal.returns-clause-scopes
returns-clause-scopes c =
    let a = c.args.l.now.actor in
    let cs = c.self.inside.contexts.items in
    let did : DoesScope c.args.l.now.body c.index_mut-context.result.now c.act.new.context c.act.new.entries.items c.in-Some.acted = c.in-Some.ensures.some in
    let here : c.index_mut-context.result.now.scopes ≡ scopes_at a cs =
    ap scopes_in (sym (context_here cs a c.index.result c.index_mut-context.result.now c.self.invariant.1 c.index.ensures.place c.index_mut-context.ensures.value)) in
    λ before ties.
    let place : a.value - 1 ≡ c.index.result = omega (arith, c.index.ensures.place) in
    subst (λ n. AreOpen (set cs n c.act.new.context) (c.args.l.now ∷ before)) place
    (open_after cs before c.args.l.now c.act.new.context c.self.invariant.1
    (subst (λ (xs : List OpenScope). (es : List ScopeEntry) → open_scopes es ≡ xs → open_scopes (onto es (scope_entries c.args.l.now.body xs)) ≡ c.act.new.context.scopes) here did.scopes)
    (subst (λ (r : RunState). AreOpen r.contexts before) (sym c.self.view_is) ties))
