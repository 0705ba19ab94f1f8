use Rattle.std.proofs.Common.{rules}
use Rattle.dtx_model.specs.Grammar.{option_word}
use Rattle.dtx_model.specs.Faults.{option_pattern}
use Rattle.script_words.proofs.Meanings.{no_value, not_allowed, option}
use Rattle.script_words.proofs.Places.{taken, misplaced}
use Rattle.script_words.proofs.Patterns.{option_allowed}
use Rattle.script_words.proofs.cursor.Words.option.Goals as goal

pub returns-in-Some-option_of-clause-ok : goal.returns-in-Some-option_of-clause-ok
returns-in-Some-option_of-clause-ok c =
    taken option_pattern c.args.self.now c.in-Some.word.now (option_word c.in-Some-option_of.o) c.next.new.self (search rules) c.in-Some-option_of.ensures.some (option_allowed c.in-Some-option_of.o)

pub returns-in-None-clause-err : goal.returns-in-None-clause-err
returns-in-None-clause-err c =
    misplaced option_pattern c.args.self.now c.in-Some.word.now c.next.new.self _ (search rules)
    (not_allowed option c.in-Some.word.now (λ x e. no_value (c.in-None.ensures.of x e)))
    c.cause.ensures
