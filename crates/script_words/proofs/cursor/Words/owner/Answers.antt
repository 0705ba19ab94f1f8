use Rattle.std.proofs.Common.{rules}
use Rattle.dtx_model.specs.Grammar.{owner_word}
use Rattle.dtx_model.specs.Faults.{owner_pattern}
use Rattle.script_words.proofs.Meanings.{no_value, not_allowed, owner}
use Rattle.script_words.proofs.Places.{taken, misplaced}
use Rattle.script_words.proofs.Patterns.{owner_allowed}
use Rattle.script_words.proofs.cursor.Words.owner.Goals as goal

pub returns-in-Some-owner_plan_of-clause-ok : goal.returns-in-Some-owner_plan_of-clause-ok
returns-in-Some-owner_plan_of-clause-ok c =
    taken owner_pattern c.args.self.now c.in-Some.word.now (owner_word c.in-Some-owner_plan_of.o) c.next.new.self (search rules) c.in-Some-owner_plan_of.ensures.some (owner_allowed c.in-Some-owner_plan_of.o)

pub returns-in-None-clause-err : goal.returns-in-None-clause-err
returns-in-None-clause-err c =
    misplaced owner_pattern c.args.self.now c.in-Some.word.now c.next.new.self _ (search rules)
    (not_allowed owner c.in-Some.word.now (λ x e. no_value (c.in-None.ensures.of x e)))
    c.cause.ensures
