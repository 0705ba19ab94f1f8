use Rattle.std.proofs.Common.{◌≡◌, take}
use Rattle.dtx_model.specs.Words.{past_of}
use Rattle.trace_picture.specs.Lanes.{class_of}
use Rattle.trace_page.proofs.columns.class_of.Given as goal

abbrev pub invariant-loop-x : goal.invariant-loop-x
invariant-loop-x l = l.newest ≡ class_of l.e.value (past_of (take l.x-index l.h))
