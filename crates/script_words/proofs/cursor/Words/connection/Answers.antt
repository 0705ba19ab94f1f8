use Rattle.std.proofs.Common.{rules}
use Rattle.dtx_model.specs.Grammar.{connection_word}
use Rattle.dtx_model.specs.Faults.{connection_pattern}
use Rattle.script_words.proofs.Meanings.{connection, no_value, not_allowed}
use Rattle.script_words.proofs.Places.{taken, misplaced}
use Rattle.script_words.proofs.Patterns.{connection_allowed}
use Rattle.script_words.proofs.cursor.Words.connection.Goals as goal

pub returns-in-Some-connection_of-clause-ok : goal.returns-in-Some-connection_of-clause-ok
returns-in-Some-connection_of-clause-ok c =
    taken connection_pattern c.args.self.now c.in-Some.word.now (connection_word c.in-Some-connection_of.c) c.next.new.self (search rules) c.in-Some-connection_of.ensures.some
    (connection_allowed c.in-Some-connection_of.c)

pub returns-in-None-clause-err : goal.returns-in-None-clause-err
returns-in-None-clause-err c =
    misplaced connection_pattern c.args.self.now c.in-Some.word.now c.next.new.self _ (search rules)
    (not_allowed connection c.in-Some.word.now (λ x e. no_value (c.in-None.ensures.of x e)))
    c.cause.ensures
