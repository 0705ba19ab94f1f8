use Rattle.std.proofs.Common.{◌≡◌, ◌∙◌, codes, sym, rules}
use Rattle.line_tail.proofs.SameBytes.{same_text}
use Rattle.entry_reader.proofs.ReadPieces.{true_found}
use Rattle.entry_reader.proofs.read_answers.plain.Goals as goal

pub returns-then-eq-2-clause-some : goal.returns-then-eq-2-clause-some
returns-then-eq-2-clause-some c = λ x k.
    let named : c.args.key.now ≡ codes "true" = search rules in
    true_found x (sym named ∙ k) (same_text _ _ (sym named ∙ k))
