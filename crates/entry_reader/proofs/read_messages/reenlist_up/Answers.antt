use Rattle.std.proofs.Common.{◌≡◌, ◌∙◌, Some, codes, ap, sym, rules}
use Rattle.line_tail.proofs.SameBytes.{same_text}
use Rattle.entry_reader.proofs.ReadInfo.{reenlist_found}
use Rattle.entry_reader.proofs.read_messages.reenlist_up.Goals as goal

pub returns-in-REENLIST-clause-of : goal.returns-in-REENLIST-clause-of
returns-in-REENLIST-clause-of c = λ m h f k.
    let named : c.args.name.now ≡ codes "reenlist" = search rules in
    ap Some (reenlist_found c.args.place m c.args.e c.info_at.result c.info_at.ensures.id c.info_at.ensures.manager c.info_at.ensures.enlistment h f (same_text _ _ (sym named ∙ k)))
