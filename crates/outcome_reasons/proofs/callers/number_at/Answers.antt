use Rattle.std.proofs.Common.{sym}
use Rattle.outcome_reasons.proofs.Numbers.{number-none, number-some}
use Rattle.outcome_reasons.proofs.callers.number_at.Goals as goal

pub returns-in-Some : goal.returns-in-Some
returns-in-Some c = sym (number-some c.args.place c.args.numbers.now c.in-Some.number.now c.in-Some.ensures.lookup.3.0 c.in-Some.ensures.lookup.3.1)

pub returns-in-None : goal.returns-in-None
returns-in-None c = sym (number-none c.args.place c.args.numbers.now c.in-None.ensures.lookup.3)
