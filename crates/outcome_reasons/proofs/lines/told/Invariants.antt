use Rattle.std.proofs.Common.{◌≡◌, take}
use Rattle.dtx_model.specs.Entries.{client_told_of}
use Rattle.dtx_model.specs.Words.{latest, past_of}
use Rattle.outcome_reasons.proofs.lines.told.Given as goal

abbrev pub invariant-loop-x : goal.invariant-loop-x
invariant-loop-x l = l.told ≡ latest client_told_of (past_of (take l.x-index l.h))
