use Rattle.std.proofs.Common.{rules, arith, decimal}
use Rattle.dtx_model.specs.Faults.{number}
use Rattle.script_words.proofs.Meanings.{counted, no_value, not_allowed}
use Rattle.script_words.proofs.Places.{taken, misplaced}
use Rattle.script_words.proofs.Patterns.{number_allowed}
use Rattle.script_words.proofs.cursor.Words.number.Goals as goal

pub returns-in-Some-number_from-clause-ok : goal.returns-in-Some-number_from-clause-ok
returns-in-Some-number_from-clause-ok c = (
  taken (number c.args.low c.args.high) c.args.self.now c.in-Some.word.now (decimal c.in-Some-number_from.n) c.next.new.self (search rules) c.in-Some-number_from.ensures.some.0
      (number_allowed c.args.low c.args.high c.in-Some-number_from.n (omega arith) c.in-Some-number_from.ensures.some.1),
  c.in-Some-number_from.ensures.some.1,
)

pub returns-in-None-clause-err : goal.returns-in-None-clause-err
returns-in-None-clause-err c =
    misplaced (number c.args.low c.args.high) c.args.self.now c.in-Some.word.now c.next.new.self _ (search rules)
    (not_allowed (counted c.args.low c.args.high) c.in-Some.word.now (λ n e. no_value (c.in-None.ensures.of n.0 n.1 e)))
    c.cause.ensures
