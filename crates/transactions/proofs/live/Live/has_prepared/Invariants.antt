use Rattle.std.proofs.Common.{◌≡◌, drop}
use Rattle.dtx_model.specs.Words.{has}
use Rattle.transactions.specs.Ending.{is_left_prepared}
use Rattle.transactions.specs.State.{past}
use Rattle.transactions.proofs.live.Live.has_prepared.Given as goal

abbrev pub invariant-loop-i : goal.invariant-loop-i
invariant-loop-i l = has (is_left_prepared (past l.self)) (drop l.i l.history.items) ≡ has (is_left_prepared (past l.self)) (past l.self)
