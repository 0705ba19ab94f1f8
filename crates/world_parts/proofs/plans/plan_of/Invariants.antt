use Rattle.std.proofs.Common.{◌≡◌, ◌≤◌, length, take}
use Rattle.dtx_model.specs.Plans.{plan_by}
use Rattle.dtx_model.specs.Words.{latest, past_of}
use Rattle.world_parts.proofs.plans.plan_of.Given as goal

abbrev pub invariant-loop-i : goal.invariant-loop-i
invariant-loop-i l = record {
  within : l.i ≤ length l.calls;
  latest_left : latest (λ k. plan_by l.e.value k.call) (past_of l.calls) ≡ latest (λ k. plan_by l.e.value k.call) (past_of (take l.i l.calls));
}

abbrev pub decreases-loop-i : goal.decreases-loop-i
decreases-loop-i l = l.i
