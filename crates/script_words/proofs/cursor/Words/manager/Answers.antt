use Rattle.std.proofs.Common.{rules}
use Rattle.dtx_model.specs.Grammar.{manager_name}
use Rattle.dtx_model.specs.Faults.{manager_pattern}
use Rattle.script_words.proofs.Meanings.{manager, no_value, not_allowed}
use Rattle.script_words.proofs.Places.{taken, misplaced}
use Rattle.script_words.proofs.Patterns.{manager_allowed}
use Rattle.script_words.proofs.cursor.Words.manager.Goals as goal

pub returns-in-Some-manager_of-clause-ok : goal.returns-in-Some-manager_of-clause-ok
returns-in-Some-manager_of-clause-ok c =
    taken manager_pattern c.args.self.now c.in-Some.word.now (manager_name c.in-Some-manager_of.r.value) c.next.new.self (search rules) c.in-Some-manager_of.ensures.some (manager_allowed c.in-Some-manager_of.r)

pub returns-in-None-clause-err : goal.returns-in-None-clause-err
returns-in-None-clause-err c =
    misplaced manager_pattern c.args.self.now c.in-Some.word.now c.next.new.self _ (search rules)
    (not_allowed manager c.in-Some.word.now (λ x e. no_value (c.in-None.ensures.of x e)))
    c.cause.ensures
