use Rattle.std.proofs.Common.{rules, sym, ap, ◌∙◌}
use Rattle.script_words.specs.Places.{end_fault}
use Rattle.script_words.proofs.Splits.{left_over}
use Rattle.script_words.proofs.cursor.Words.end.Goals as goal

pub returns-then-self-clause-err : goal.returns-then-self-clause-err
returns-then-self-clause-err c =
    let e = ap (λ ws. end_fault ws) c.self.view_is in
    sym e ∙ left_over c.self.inside.some c.self.inside.rest.now (search rules)
