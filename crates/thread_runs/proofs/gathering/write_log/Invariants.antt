use Rattle.std.proofs.Common.{◌≡◌, ◌+◌, ◌++◌, map, take, length, ◌≤◌}
use Rattle.dtx_values.specs.declared.trace.Place.TheVariants.{Log}
use Rattle.thread_runs.proofs.gathering.write_log.Given as goal

abbrev pub invariant-loop-entry : goal.invariant-loop-entry
invariant-loop-entry l = (l.trace.items ≡ l.initial.trace.items ++ map (λ e. (Log, e)) (take l.entry-index l.entries)) × (length l.entries ≤ l.trace.room + l.entry-index)
