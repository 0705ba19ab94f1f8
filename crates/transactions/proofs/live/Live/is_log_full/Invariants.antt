use Rattle.std.proofs.Common.{◌≡◌, drop}
use Rattle.transactions.specs.Telling.{is_full}
use Rattle.dtx_model.specs.Words.{has}
use Rattle.transactions.specs.State.{past}
use Rattle.transactions.proofs.live.Live.is_log_full.Given as goal

abbrev pub invariant-loop-i : goal.invariant-loop-i
invariant-loop-i l = has is_full (drop l.i l.history.items) ≡ has is_full (past l.self)
