use Rattle.std.proofs.Common.{◌≡◌, ◌==◌, ℕ, None, Some, get_or, if◌then◌else◌}
use Rattle.script_calls.proofs.PlanTable.{on_ok, planned_put}
use Rattle.script_calls.proofs.plans.enlist.Goals as goal

pub returns : goal.returns
returns c =
    let made = c.args.enlistments.now.items in
    let new = c.put_at.new.items.items in
    on_ok c.put_at.result (λ (k : (n : ℕ) → get_or new n None ≡ (if n == c.index.result then Some c.in-Some.t else get_or made n None)).
    planned_put made new c.args.body c.in-Some.e c.in-Some.t c.index.result c.index.ensures.place c.in-Some.ensures.some k) c.put_at.ensures
