use Rattle.std.proofs.Common.{inr, refl}
use Rattle.run_endings.proofs.Left.{some_best}
use Rattle.run_endings.proofs.finishing.entering.better.Goals as goal

pub returns-then-is_lower-clause-either : goal.returns-then-is_lower-clause-either
returns-then-is_lower-clause-either c = inr (c.in-Some.due, c.in-Some.is, refl)

pub returns-else-is_lower-clause-some : goal.returns-else-is_lower-clause-some
returns-else-is_lower-clause-some c = λ some. some_best c.args.best c.line_of.result c.is_lower.result c.in-Some.due.line c.line_of.ensures c.is_lower.ensures c.if-is_lower.false
