use Rattle.std.proofs.Common.{rules}
use Rattle.dtx_model.specs.Grammar.{asked_iso_word}
use Rattle.dtx_model.specs.Faults.{iso_pattern}
use Rattle.script_words.proofs.Meanings.{iso, no_value, not_allowed}
use Rattle.script_words.proofs.Places.{taken, misplaced}
use Rattle.script_words.proofs.Patterns.{isolation_allowed}
use Rattle.script_words.proofs.cursor.Words.isolation.Goals as goal

pub returns-in-Some-asked_isolation_of-clause-ok : goal.returns-in-Some-asked_isolation_of-clause-ok
returns-in-Some-asked_isolation_of-clause-ok c =
    taken iso_pattern c.args.self.now c.in-Some.word.now (asked_iso_word c.in-Some-asked_isolation_of.i) c.next.new.self (search rules) c.in-Some-asked_isolation_of.ensures.some (isolation_allowed c.in-Some-asked_isolation_of.i)

pub returns-in-None-clause-err : goal.returns-in-None-clause-err
returns-in-None-clause-err c =
    misplaced iso_pattern c.args.self.now c.in-Some.word.now c.next.new.self _ (search rules)
    (not_allowed iso c.in-Some.word.now (λ x e. no_value (c.in-None.ensures.of x e)))
    c.cause.ensures
