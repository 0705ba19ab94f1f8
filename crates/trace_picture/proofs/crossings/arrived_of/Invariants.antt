use Rattle.std.proofs.Common.{◌≡◌, take}
use Rattle.dtx_model.specs.Words.{past_of}
use Rattle.trace_picture.specs.Crossings.{arrived}
use Rattle.trace_picture.proofs.crossings.arrived_of.Given as goal

abbrev pub invariant-loop-i : goal.invariant-loop-i
invariant-loop-i l = past_of l.rows.items ≡ arrived (past_of (take l.i l.h))
