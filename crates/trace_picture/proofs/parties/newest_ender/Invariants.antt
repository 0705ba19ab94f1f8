use Rattle.std.proofs.Common.{◌≡◌, take}
use Rattle.dtx_model.specs.Words.{latest, past_of}
use Rattle.trace_picture.specs.Parties.{ender_in}
use Rattle.trace_picture.proofs.parties.newest_ender.Given as goal

abbrev pub invariant-loop-x : goal.invariant-loop-x
invariant-loop-x l = l.newest ≡ latest (ender_in l.lines) (past_of (take l.x-index l.h))
