use Rattle.std.proofs.Common.{◌≡◌, ◌≤◌, take}
use Rattle.dtx_values.specs.Table.{how_many}
use Rattle.dtx_model.specs.Words.{past_of}
use Rattle.run_endings.proofs.finishing.testing.stops_in.Given as goal
use Rattle.dtx_model.specs.Tied.{is_stop}

abbrev pub invariant-loop-i : goal.invariant-loop-i
invariant-loop-i l = (l.n ≤ l.i) × (l.n ≡ how_many is_stop (past_of (take l.i l.h.items)))
