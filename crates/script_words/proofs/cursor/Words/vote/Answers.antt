use Rattle.std.proofs.Common.{rules}
use Rattle.dtx_model.specs.Grammar.{vote_word}
use Rattle.dtx_model.specs.Faults.{vote_pattern}
use Rattle.script_words.proofs.Meanings.{no_value, not_allowed, vote}
use Rattle.script_words.proofs.Places.{taken, misplaced}
use Rattle.script_words.proofs.Patterns.{vote_allowed}
use Rattle.script_words.proofs.cursor.Words.vote.Goals as goal

pub returns-in-Some-vote_plan_of-clause-ok : goal.returns-in-Some-vote_plan_of-clause-ok
returns-in-Some-vote_plan_of-clause-ok c =
    taken vote_pattern c.args.self.now c.in-Some.word.now (vote_word c.in-Some-vote_plan_of.v) c.next.new.self (search rules) c.in-Some-vote_plan_of.ensures.some (vote_allowed c.in-Some-vote_plan_of.v)

pub returns-in-None-clause-err : goal.returns-in-None-clause-err
returns-in-None-clause-err c =
    misplaced vote_pattern c.args.self.now c.in-Some.word.now c.next.new.self _ (search rules)
    (not_allowed vote c.in-Some.word.now (λ x e. no_value (c.in-None.ensures.of x e)))
    c.cause.ensures
