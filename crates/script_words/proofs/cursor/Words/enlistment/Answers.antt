use Rattle.std.proofs.Common.{rules}
use Rattle.dtx_model.specs.Grammar.{enlistment_name}
use Rattle.dtx_model.specs.Faults.{enlistment_pattern}
use Rattle.script_words.proofs.Meanings.{enlistment, no_value, not_allowed}
use Rattle.script_words.proofs.Places.{taken, misplaced}
use Rattle.script_words.proofs.Patterns.{enlistment_allowed}
use Rattle.script_words.proofs.cursor.Words.enlistment.Goals as goal

pub returns-in-Some-enlistment_of-clause-ok : goal.returns-in-Some-enlistment_of-clause-ok
returns-in-Some-enlistment_of-clause-ok c =
    taken enlistment_pattern c.args.self.now c.in-Some.word.now (enlistment_name c.in-Some-enlistment_of.e.value) c.next.new.self (search rules) c.in-Some-enlistment_of.ensures.some (enlistment_allowed c.in-Some-enlistment_of.e)

pub returns-in-None-clause-err : goal.returns-in-None-clause-err
returns-in-None-clause-err c =
    misplaced enlistment_pattern c.args.self.now c.in-Some.word.now c.next.new.self _ (search rules)
    (not_allowed enlistment c.in-Some.word.now (λ x e. no_value (c.in-None.ensures.of x e)))
    c.cause.ensures
