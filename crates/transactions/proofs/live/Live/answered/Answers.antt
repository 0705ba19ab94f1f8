use Rattle.std.proofs.Common.{ℕ, arith, subst}
use Rattle.dtx_values.specs.declared.entry.Entry.TheVariants.{Answered}
use Rattle.transactions.specs.Answered.{Has, is_answer_to}
use Rattle.transactions.specs.State.{past}
use Rattle.transactions.proofs.Scanning.{has-history, stands-history}
use Rattle.transactions.proofs.live.Live.answered.Goals as goal

pub loop-i-init : goal.loop-i-init
loop-i-init c = has-history (is_answer_to c.args.line) c.history-history.result.now.items _ _ c.self.view_is c.history-history.ensures

pub returns-in-loop-i-clause-found : goal.returns-in-loop-i-clause-found
returns-in-loop-i-clause-found c =
    subst (λ (n : ℕ). Has (Answered n c.in-Answered.a) (past c.args.self.now)) c.if-n-line.true
    (stands-history c.history-history.result.now.items c.loop-i.i (Answered c.in-Answered.n c.in-Answered.a) _ _ c.self.view_is c.history-history.ensures (omega arith) c.in-Answered.ensures)
