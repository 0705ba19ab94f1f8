use Rattle.std.proofs.Common.{◌≡◌, ◌∙◌, Some, codes, ap, sym, rules}
use Rattle.line_tail.proofs.SameBytes.{same_text}
use Rattle.entry_reader.proofs.ReadInfo.{enlist_found}
use Rattle.entry_reader.proofs.read_messages.enlist_up.Goals as goal

pub returns-in-ENLIST-clause-of : goal.returns-in-ENLIST-clause-of
returns-in-ENLIST-clause-of c = λ m h f k.
    let named : c.args.name.now ≡ codes "enlist" = search rules in
    ap Some (enlist_found c.args.place m c.args.e c.info_at.result c.info_at.ensures.id c.info_at.ensures.manager c.info_at.ensures.enlistment h f (same_text _ _ (sym named ∙ k)))
