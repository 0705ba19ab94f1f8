use Rattle.std.proofs.Common.{◌≡◌, slice_get, take}
use Rattle.dtx_model.specs.Words.{past_of}
use Rattle.dtx_model.specs.Outcome.{durables}
use Rattle.history_judge.proofs.evidence.newest_durable.Given as goal

abbrev pub invariant-loop-x : goal.invariant-loop-x
invariant-loop-x l = l.newest ≡ slice_get (durables (past_of (take l.x-index l.h))) 0
