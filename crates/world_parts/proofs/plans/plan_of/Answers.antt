use Rattle.std.proofs.Common.{◌≡◌, ◌≤◌, ◌<◌, ◌+◌, ◌-◌, ◌∙◌, ℕ, List, Option, length, get_or, take, ap, sym, arith}
use Rattle.dtx_values.specs.declared.note.Plan.{Plan}
use Rattle.dtx_model.specs.Plans.{plan_by}
use Rattle.dtx_model.specs.Words.{latest, or_else, past_of}
use Rattle.dtx_model.specs.declared.waiting.EnteredCall.{EnteredCall}
use Rattle.dtx_model.proofs.Prefixes.{past-more}
use Rattle.world_parts.proofs.plans.plan_of.Goals as goal

-- the newest of the first i items is the one before place i
latest_at : {E A : Type 0} (f : E → Option A) (xs : List E) (i : ℕ) (d : E) → 0 < i → i ≤ length xs → latest f (past_of (take i xs)) ≡ or_else (f (get_or xs (i - 1) d)) (latest f (past_of (take (i - 1) xs)))
latest_at f xs i d some within =
    let before : i - 1 < length xs = omega (arith, some, within) in
    let again : i - 1 + 1 ≡ i = omega (arith, some) in
    ap (λ n. latest f (past_of (take n xs))) (sym again) ∙ ap (latest f) (past-more xs (i - 1) d before)

pub loop-i-preserved : goal.loop-i-preserved
loop-i-preserved c =
    let f : EnteredCall → Option Plan = λ k. plan_by c.args.e.value k.call in
    let xs = c.args.calls.now in
    let i = c.loop-i.i in
    let within = c.loop-i.invariant.within in
    let none = sym c.plan_by.ensures ∙ c.in_default.is in
    record {
      within = omega (arith, within);
      latest_left =
          c.loop-i.invariant.latest_left
          ∙ latest_at f xs i c.index-calls-i.result c.loop-i-test.true within
          ∙ ap (λ (o : Option Plan). or_else o (latest f (past_of (take (i - 1) xs)))) none;
    }
