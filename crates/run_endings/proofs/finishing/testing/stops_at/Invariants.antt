use Rattle.std.proofs.Common.{◌≡◌, ◌≤◌, take}
use Rattle.dtx_values.specs.Table.{how_many}
use Rattle.dtx_model.specs.Words.{past_of}
use Rattle.run_endings.proofs.finishing.testing.stops_at.Given as goal
use Rattle.dtx_model.specs.Tied.{is_stop}

abbrev pub invariant-loop-e : goal.invariant-loop-e
invariant-loop-e l = (l.n ≤ l.e-index) × (l.n ≡ how_many is_stop (past_of (take l.e-index l.at_log)))
