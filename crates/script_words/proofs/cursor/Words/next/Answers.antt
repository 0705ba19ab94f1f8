use Rattle.std.proofs.Common.{rules, sym, ◌∙◌}
use Rattle.script_words.proofs.Splits.{next_word, last_word}
use Rattle.script_words.proofs.cursor.Words.next.Goals as goal

pub returns-in-Some-clause-some : goal.returns-in-Some-clause-some
returns-in-Some-clause-some c = sym c.self.view_is ∙ next_word c.self.inside.some c.self.inside.rest.now c.in-Some.word.now c.in-Some.rest.now (search rules) (search rules) (search rules)

pub returns-in-None-clause-some : goal.returns-in-None-clause-some
returns-in-None-clause-some c = sym c.self.view_is ∙ last_word c.self.inside.some c.self.inside.rest.now (search rules) (search rules)
