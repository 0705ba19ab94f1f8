use Rattle.std.proofs.Common.{◌≡◌, ◌+◌, ◌<◌, ◌∷◌, ◌++◌, [], get_or, length, ap, subst, sym, ◌∙◌, List, arith}
use Rattle.std.proofs.lemmas.Iterator.Adapters.{YieldsList-from_rev_slice}
use Rattle.std.proofs.lemmas.Iterator.Consumers.{YieldsList-turn}
use Rattle.std.proofs.lemmas.List.{length_push}
use Rattle.dtx_values.specs.declared.scope.OpenScope.{OpenScope}
use Rattle.dtx_model.specs.Words.{past_of}
use Rattle.dtx_model.proofs.Pasts.{past-reverse}
use Rattle.script_calls.proofs.Closing.{closed_notes, noted_more, taken_last, taken_more}
use Rattle.script_calls.proofs.scope_lines.put_closed.Goals.{In-Some}
use Rattle.script_calls.proofs.scope_lines.put_closed.Goals as goal

-- the scope of this turn is so far from the top
here : (c : In-Some) → (length c.loop-x.yielded < length (past_of c.args.scopes.now)) × (c.in-Some.x.now ≡ get_or (past_of c.args.scopes.now) (length c.loop-x.yielded) c.in-Some.x.now)
here c =
    let k = length c.loop-x.yielded in
    let x = c.in-Some.x.now in
    let turn = YieldsList-turn (YieldsList-from_rev_slice c.args.scopes.now cc) c.loop-x.yielded _ c.loop-x.yielded_by _ _ c.in-Some.x c.in-Some.is c.next.ensures.steps in
    subst (λ (ys : List OpenScope). (k < length ys) × (x ≡ get_or ys k x)) (sym (past-reverse c.args.scopes.now)) turn

pub loop-x-preserved : goal.loop-x-preserved
loop-x-preserved c =
    let xs = past_of c.args.scopes.now in
    let k = length c.loop-x.yielded in
    let x = c.in-Some.x.now in
    let at = here (goal.at.loop-x-preserved c).In-Some in
    let next : length (c.loop-x.yielded ++ c.in-Some.x ∷ []) ≡ k + 1 = length_push c.loop-x.yielded c.in-Some.x in
    rw next (
      noted_more c.args.entries.now.items c.loop-x.entries.items c.push_reserved.new.self.items xs k x at.0 at.1 c.loop-x.invariant.0 c.push_reserved.ensures.items,
      taken_more c.args.s.value xs k x at.0 at.1 (sym c.eq.ensures ∙ c.if-eq.false) c.loop-x.invariant.1,
      omega (arith, c.push_reserved.ensures.len, c.loop-x.invariant.2),
      c.push_reserved.ensures.capacity ∙ c.loop-x.invariant.3,
    )

pub returns-then-eq : goal.returns-then-eq
returns-then-eq c =
    let xs = past_of c.args.scopes.now in
    let k = length c.loop-x.yielded in
    let x = c.in-Some.x.now in
    let at = here (goal.at.returns-then-eq c).In-Some in
    noted_more c.args.entries.now.items c.loop-x.entries.items c.push_reserved.new.self.items xs k x at.0 at.1 c.loop-x.invariant.0 c.push_reserved.ensures.items
    ∙ ap (λ (ys : List OpenScope). c.args.entries.now.items ++ closed_notes ys) (sym (taken_last c.args.s.value xs k x at.0 at.1 (sym c.eq.ensures ∙ c.if-eq.true) c.loop-x.invariant.1))
