use Rattle.std.proofs.Common.{◌≡◌, drop}
use Rattle.dtx_model.specs.Words.{has}
use Rattle.transactions.specs.Ending.{is_told_to}
use Rattle.transactions.specs.State.{past}
use Rattle.transactions.proofs.live.Live.was_told.Given as goal

abbrev pub invariant-loop-i : goal.invariant-loop-i
invariant-loop-i l = has (is_told_to l.e) (drop l.i l.history.items) ≡ has (is_told_to l.e) (past l.self)
