use Rattle.std.proofs.Common.{◌≡◌, ◌≤◌, take}
use Rattle.dtx_values.specs.Table.{how_many}
use Rattle.dtx_model.specs.AtLog.{is_opened}
use Rattle.dtx_model.specs.Words.{past_of}
use Rattle.run_endings.proofs.finishing.testing.openings_at.Given as goal

abbrev pub invariant-loop-e : goal.invariant-loop-e
invariant-loop-e l = (l.n ≤ l.e-index) × (l.n ≡ how_many is_opened (past_of (take l.e-index l.at_log)))
