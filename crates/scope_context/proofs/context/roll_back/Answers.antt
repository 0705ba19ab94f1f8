use Rattle.std.proofs.Common.{rules}
use Rattle.scope_context.proofs.context.roll_back.Goals as goal

pub returns-then-not-is_in-clause-items : goal.returns-then-not-is_in-clause-items
returns-then-not-is_in-clause-items c = rw c.in-Some.is (search rules)

pub returns-else-not-is_in-clause-items : goal.returns-else-not-is_in-clause-items
returns-else-not-is_in-clause-items c = rw c.in-Some.is (search rules)
