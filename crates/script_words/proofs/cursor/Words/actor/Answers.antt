use Rattle.std.proofs.Common.{rules}
use Rattle.dtx_model.specs.Grammar.{actor_name}
use Rattle.dtx_model.specs.Faults.{actor_pattern}
use Rattle.script_words.proofs.Meanings.{actor, no_value, not_allowed}
use Rattle.script_words.proofs.Places.{taken, misplaced}
use Rattle.script_words.proofs.Patterns.{actor_allowed}
use Rattle.script_words.proofs.cursor.Words.actor.Goals as goal

pub returns-in-Some-actor_of-clause-ok : goal.returns-in-Some-actor_of-clause-ok
returns-in-Some-actor_of-clause-ok c =
    taken actor_pattern c.args.self.now c.in-Some.word.now (actor_name c.in-Some-actor_of.a.value) c.next.new.self (search rules) c.in-Some-actor_of.ensures.some (actor_allowed c.in-Some-actor_of.a)

pub returns-in-None-clause-err : goal.returns-in-None-clause-err
returns-in-None-clause-err c =
    misplaced actor_pattern c.args.self.now c.in-Some.word.now c.next.new.self _ (search rules)
    (not_allowed actor c.in-Some.word.now (λ x e. no_value (c.in-None.ensures.of x e)))
    c.cause.ensures
