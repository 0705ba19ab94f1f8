use Rattle.std.proofs.Common.{◌≡◌, ◌≤◌, take}
use Rattle.dtx_model.specs.Words.{past_of}
use Rattle.trace_picture.specs.Crossings.{got_since}
use Rattle.trace_picture.proofs.crossings.got_since.Given as goal

abbrev pub invariant-loop-x : goal.invariant-loop-x
invariant-loop-x l = (l.got ≡ got_since l.c l.d (past_of (take l.x-index l.h))) × (l.got ≤ l.x-index)
