use Rattle.std.proofs.Common.{rules}
use Rattle.dtx_model.specs.Grammar.{image_word}
use Rattle.dtx_model.specs.Faults.{image_pattern}
use Rattle.script_words.proofs.Meanings.{image, no_value, not_allowed}
use Rattle.script_words.proofs.Places.{taken, misplaced}
use Rattle.script_words.proofs.Patterns.{image_allowed}
use Rattle.script_words.proofs.cursor.Words.image.Goals as goal

pub returns-in-Some-image_of-clause-ok : goal.returns-in-Some-image_of-clause-ok
returns-in-Some-image_of-clause-ok c =
    taken image_pattern c.args.self.now c.in-Some.word.now (image_word c.in-Some-image_of.i) c.next.new.self (search rules) c.in-Some-image_of.ensures.some (image_allowed c.in-Some-image_of.i)

pub returns-in-None-clause-err : goal.returns-in-None-clause-err
returns-in-None-clause-err c =
    misplaced image_pattern c.args.self.now c.in-Some.word.now c.next.new.self _ (search rules)
    (not_allowed image c.in-Some.word.now (λ x e. no_value (c.in-None.ensures.of x e)))
    c.cause.ensures
