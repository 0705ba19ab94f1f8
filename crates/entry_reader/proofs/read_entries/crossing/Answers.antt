use Rattle.std.proofs.Common.{◌≡◌, ◌∙◌, codes, sym, rules}
use Rattle.line_tail.proofs.SameBytes.{same_text}
use Rattle.entry_reader.proofs.ReadPieces.{cut_found}
use Rattle.entry_reader.proofs.read_entries.crossing.Goals as goal

pub returns-then-eq-clause-of : goal.returns-then-eq-clause-of
returns-then-eq-clause-of c = λ x f ev oe ae ow os ca k r.
    let named : c.args.key.now ≡ codes "cut" = search rules in
    cut_found c.args.at x c.cut_of.result c.args.rest.now f (same_text _ _ (sym named ∙ k)) r (c.cut_of.ensures.of c.args.at)
