use Rattle.std.proofs.Common.{◌≡◌, take}
use Rattle.dtx_model.specs.Words.{latest, past_of}
use Rattle.trace_picture.specs.Lanes.{client_in}
use Rattle.trace_picture.proofs.parties.newest_client.Given as goal

abbrev pub invariant-loop-x : goal.invariant-loop-x
invariant-loop-x l = l.newest ≡ latest client_in (past_of (take l.x-index l.h))
