use Rattle.std.proofs.Common.{rules}
use Rattle.dtx_model.specs.Grammar.{kind_word}
use Rattle.dtx_model.specs.Faults.{kind_pattern}
use Rattle.script_words.proofs.Meanings.{kind, no_value, not_allowed}
use Rattle.script_words.proofs.Places.{taken, misplaced}
use Rattle.script_words.proofs.Patterns.{kind_allowed}
use Rattle.script_words.proofs.cursor.Words.kind.Goals as goal

pub returns-in-Some-kind_of-clause-ok : goal.returns-in-Some-kind_of-clause-ok
returns-in-Some-kind_of-clause-ok c =
    taken kind_pattern c.args.self.now c.in-Some.word.now (kind_word c.in-Some-kind_of.k) c.next.new.self (search rules) c.in-Some-kind_of.ensures.some (kind_allowed c.in-Some-kind_of.k)

pub returns-in-None-clause-err : goal.returns-in-None-clause-err
returns-in-None-clause-err c =
    misplaced kind_pattern c.args.self.now c.in-Some.word.now c.next.new.self _ (search rules)
    (not_allowed kind c.in-Some.word.now (λ x e. no_value (c.in-None.ensures.of x e)))
    c.cause.ensures
