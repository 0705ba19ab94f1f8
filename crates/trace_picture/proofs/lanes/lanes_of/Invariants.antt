use Rattle.std.proofs.Common.{◌≡◌, take}
use Rattle.dtx_model.specs.Words.{past_of}
use Rattle.trace_picture.specs.Lanes.{lanes}
use Rattle.trace_picture.proofs.lanes.lanes_of.Given as goal

abbrev pub invariant-loop-x : goal.invariant-loop-x
invariant-loop-x l = l.found ≡ lanes (past_of (take l.x-index l.h))
