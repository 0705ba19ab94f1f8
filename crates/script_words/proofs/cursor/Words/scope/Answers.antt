use Rattle.std.proofs.Common.{rules}
use Rattle.dtx_model.specs.Grammar.{scope_name}
use Rattle.dtx_model.specs.Faults.{scope_pattern}
use Rattle.script_words.proofs.Meanings.{no_value, not_allowed, scope}
use Rattle.script_words.proofs.Places.{taken, misplaced}
use Rattle.script_words.proofs.Patterns.{scope_allowed}
use Rattle.script_words.proofs.cursor.Words.scope.Goals as goal

pub returns-in-Some-scope_of-clause-ok : goal.returns-in-Some-scope_of-clause-ok
returns-in-Some-scope_of-clause-ok c =
    taken scope_pattern c.args.self.now c.in-Some.word.now (scope_name c.in-Some-scope_of.s.value) c.next.new.self (search rules) c.in-Some-scope_of.ensures.some (scope_allowed c.in-Some-scope_of.s)

pub returns-in-None-clause-err : goal.returns-in-None-clause-err
returns-in-None-clause-err c =
    misplaced scope_pattern c.args.self.now c.in-Some.word.now c.next.new.self _ (search rules)
    (not_allowed scope c.in-Some.word.now (λ x e. no_value (c.in-None.ensures.of x e)))
    c.cause.ensures
