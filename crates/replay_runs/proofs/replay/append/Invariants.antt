use Rattle.std.proofs.Common.{◌≡◌, ◌+◌, ◌++◌, map, take}
use Rattle.replay_runs.proofs.replay.append.Given as goal

abbrev pub invariant-loop-e : goal.invariant-loop-e
invariant-loop-e l = (l.trace.items ≡ l.initial.trace.items ++ map (λ e. (l.place, e)) (take l.e-index l.entries)) × (l.initial.trace.room ≡ l.trace.room + l.e-index)
