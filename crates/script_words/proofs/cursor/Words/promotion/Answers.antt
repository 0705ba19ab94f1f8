use Rattle.std.proofs.Common.{rules}
use Rattle.dtx_model.specs.Grammar.{promote_word}
use Rattle.dtx_model.specs.Faults.{promote_pattern}
use Rattle.script_words.proofs.Meanings.{no_value, not_allowed, promote}
use Rattle.script_words.proofs.Places.{taken, misplaced}
use Rattle.script_words.proofs.Patterns.{promotion_allowed}
use Rattle.script_words.proofs.cursor.Words.promotion.Goals as goal

pub returns-in-Some-promotion_plan_of-clause-ok : goal.returns-in-Some-promotion_plan_of-clause-ok
returns-in-Some-promotion_plan_of-clause-ok c =
    taken promote_pattern c.args.self.now c.in-Some.word.now (promote_word c.in-Some-promotion_plan_of.p) c.next.new.self (search rules) c.in-Some-promotion_plan_of.ensures.some (promotion_allowed c.in-Some-promotion_plan_of.p)

pub returns-in-None-clause-err : goal.returns-in-None-clause-err
returns-in-None-clause-err c =
    misplaced promote_pattern c.args.self.now c.in-Some.word.now c.next.new.self _ (search rules)
    (not_allowed promote c.in-Some.word.now (λ x e. no_value (c.in-None.ensures.of x e)))
    c.cause.ensures
