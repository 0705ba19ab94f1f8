use Rattle.std.proofs.Common.{inr}
use Rattle.transactions.proofs.manager.TransactionManager.enlisted.Goals as goal

pub returns-in-Err-done-clause-refused : goal.returns-in-Err-done-clause-refused
returns-in-Err-done-clause-refused g c =
    let answered = c.in-Err-done.ensures.refused in
    inr (c.in-Ok.number, c.in-Ok.field-0-1, c.in-Ok.answer, answered.0, c.in-Ok.ensures.enlisted, answered.1)
