use Rattle.std.proofs.Common.{◌≡◌, take}
use Rattle.dtx_model.specs.Words.{past_of}
use Rattle.reenlist_recovery.specs.Standing.{standing_of}
use Rattle.reenlist_recovery.proofs.standing.standing_of.Given as goal

abbrev pub invariant-loop-i : goal.invariant-loop-i
invariant-loop-i l = l.standing ≡ standing_of l.e (past_of (take l.i l.history.items))
