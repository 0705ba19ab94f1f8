use Rattle.std.proofs.Common.{◌≡◌, take}
use Rattle.dtx_model.specs.Words.{past_of}
use Rattle.thread_runs.specs.Gathering.{with_histories}
use Rattle.thread_runs.proofs.gathering.write_histories.Given as goal

abbrev pub invariant-loop-state : goal.invariant-loop-state
invariant-loop-state g l = past_of l.trace.items ≡ with_histories (take l.state-index l.states) (past_of l.initial.trace.items)
