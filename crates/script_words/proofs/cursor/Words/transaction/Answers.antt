use Rattle.std.proofs.Common.{rules}
use Rattle.dtx_model.specs.Grammar.{transaction_name}
use Rattle.dtx_model.specs.Faults.{transaction_pattern}
use Rattle.script_words.proofs.Meanings.{no_value, not_allowed, transaction}
use Rattle.script_words.proofs.Places.{taken, misplaced}
use Rattle.script_words.proofs.Patterns.{transaction_allowed}
use Rattle.script_words.proofs.cursor.Words.transaction.Goals as goal

pub returns-in-Some-transaction_of-clause-ok : goal.returns-in-Some-transaction_of-clause-ok
returns-in-Some-transaction_of-clause-ok c =
    taken transaction_pattern c.args.self.now c.in-Some.word.now (transaction_name c.in-Some-transaction_of.t.value) c.next.new.self (search rules) c.in-Some-transaction_of.ensures.some (transaction_allowed c.in-Some-transaction_of.t)

pub returns-in-None-clause-err : goal.returns-in-None-clause-err
returns-in-None-clause-err c =
    misplaced transaction_pattern c.args.self.now c.in-Some.word.now c.next.new.self _ (search rules)
    (not_allowed transaction c.in-Some.word.now (λ x e. no_value (c.in-None.ensures.of x e)))
    c.cause.ensures
