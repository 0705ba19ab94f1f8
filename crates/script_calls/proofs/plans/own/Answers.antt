use Rattle.std.proofs.Common.{◌≡◌, ◌==◌, ℕ, None, Some, get_or, if◌then◌else◌}
use Rattle.script_calls.proofs.PlanTable.{on_ok, owned_put}
use Rattle.script_calls.proofs.plans.own.Goals as goal

pub returns : goal.returns
returns c =
    let clones = c.args.clones.now.items in
    let new = c.put_at.new.items.items in
    rw c.in-Clone.is
    (on_ok c.put_at.result (λ (k : (n : ℕ) → get_or new n None ≡ (if n == c.index.result then Some c.in-Clone.t else get_or clones n None)).
    owned_put clones new c.in-Clone.t c.in-Clone.c c.in-Clone.field-2 c.index.result c.index.ensures.place k) c.put_at.ensures)
