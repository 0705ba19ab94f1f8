use Rattle.std.proofs.Common.{◌≡◌, ◌≤◌, ◌+◌, ◌++◌, ◌∷◌, length, take}
use Rattle.dtx_values.specs.declared.entry.Entry.TheVariants.{Called}
use Rattle.thread_runs.proofs.contexts.write.Given as goal

abbrev pub invariant-loop-e : goal.invariant-loop-e
invariant-loop-e l = (l.context.items ≡ l.fn.context.items ++ Called l.n l.fn.a l.fn.answer ∷ take l.e-index l.notes) × (length l.notes ≤ l.context.room + l.e-index)
