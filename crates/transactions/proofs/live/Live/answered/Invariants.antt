use Rattle.std.proofs.Common.{◌≡◌, drop}
use Rattle.dtx_model.specs.Words.{has}
use Rattle.transactions.specs.Answered.{is_answer_to}
use Rattle.transactions.specs.State.{past}
use Rattle.transactions.proofs.live.Live.answered.Given as goal

abbrev pub invariant-loop-i : goal.invariant-loop-i
invariant-loop-i l = has (is_answer_to l.line) (drop l.i l.history.items) ≡ has (is_answer_to l.line) (past l.self)
