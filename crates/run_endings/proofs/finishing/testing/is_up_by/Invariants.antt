use Rattle.std.proofs.Common.{◌≡◌, take}
use Rattle.dtx_model.specs.Words.{past_of}
use Rattle.run_endings.proofs.finishing.testing.is_up_by.Given as goal
use Rattle.dtx_model.specs.AtLog.{is_up_by}

abbrev pub invariant-loop-e : goal.invariant-loop-e
invariant-loop-e l = l.up ≡ is_up_by (past_of (take l.e-index l.at_log))
