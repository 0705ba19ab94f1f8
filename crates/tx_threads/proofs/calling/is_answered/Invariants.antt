use Rattle.std.proofs.Common.{◌≡◌, drop}
use Rattle.dtx_model.specs.Words.{has}
use Rattle.tx_threads.specs.Turning.{is_answer_to}
use Rattle.tx_threads.proofs.calling.is_answered.Given as goal

abbrev pub invariant-loop-i : goal.invariant-loop-i
invariant-loop-i l = has (is_answer_to l.line) (drop l.i l.history.items) ≡ has (is_answer_to l.line) l.history.items
