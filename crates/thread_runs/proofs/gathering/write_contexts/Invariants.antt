use Rattle.std.proofs.Common.{map}
use Rattle.dtx_model.specs.Words.{past_of}
use Rattle.thread_runs.proofs.Writing.{HasUpTo}
use Rattle.thread_runs.proofs.gathering.write_contexts.Given as goal

abbrev pub invariant-loop-n : goal.invariant-loop-n
invariant-loop-n l = HasUpTo l.n (map (λ e. e.items) l.contexts) (past_of l.trace.items)
