use Rattle.std.proofs.Common.{rules}
use Rattle.dtx_model.specs.Grammar.{timeout_word}
use Rattle.dtx_model.specs.Faults.{timeout_pattern}
use Rattle.script_words.proofs.Meanings.{no_value, not_allowed, timeout}
use Rattle.script_words.proofs.Places.{taken, misplaced}
use Rattle.script_words.proofs.Patterns.{timeout_allowed}
use Rattle.script_words.proofs.cursor.Words.timeout.Goals as goal

pub returns-in-Some-timeout_of-clause-ok : goal.returns-in-Some-timeout_of-clause-ok
returns-in-Some-timeout_of-clause-ok c = (
  taken timeout_pattern c.args.self.now c.in-Some.word.now (timeout_word c.in-Some-timeout_of.d) c.next.new.self (search rules) c.in-Some-timeout_of.ensures.some.0
      (timeout_allowed c.in-Some-timeout_of.d c.in-Some-timeout_of.ensures.some.1),
  c.in-Some-timeout_of.ensures.some.1,
)

pub returns-in-None-clause-err : goal.returns-in-None-clause-err
returns-in-None-clause-err c =
    misplaced timeout_pattern c.args.self.now c.in-Some.word.now c.next.new.self _ (search rules)
    (not_allowed timeout c.in-Some.word.now (λ d e. no_value (c.in-None.ensures.of d.0 d.1 e)))
    c.cause.ensures
