use Rattle.std.proofs.Common.{rules}
use Rattle.dtx_model.specs.Grammar.{clone_name}
use Rattle.dtx_model.specs.Faults.{clone_pattern}
use Rattle.script_words.proofs.Meanings.{clone, no_value, not_allowed}
use Rattle.script_words.proofs.Places.{taken, misplaced}
use Rattle.script_words.proofs.Patterns.{clone_allowed}
use Rattle.script_words.proofs.cursor.Words.clone.Goals as goal

pub returns-in-Some-clone_of-clause-ok : goal.returns-in-Some-clone_of-clause-ok
returns-in-Some-clone_of-clause-ok c =
    taken clone_pattern c.args.self.now c.in-Some.word.now (clone_name c.in-Some-clone_of.c.value) c.next.new.self (search rules) c.in-Some-clone_of.ensures.some (clone_allowed c.in-Some-clone_of.c)

pub returns-in-None-clause-err : goal.returns-in-None-clause-err
returns-in-None-clause-err c =
    misplaced clone_pattern c.args.self.now c.in-Some.word.now c.next.new.self _ (search rules)
    (not_allowed clone c.in-Some.word.now (λ x e. no_value (c.in-None.ensures.of x e)))
    c.cause.ensures
