use Rattle.std.proofs.Common.{refl}
use Rattle.ledger_book.proofs.book.Book.put_all.Goals as goal

pub returns-in-Err-enlist : goal.returns-in-Err-enlist
returns-in-Err-enlist g c = record { goes = λ honest free w. c.enlist-2.ensures.goes honest (c.enlist.ensures.next honest refl free w) (c.enlist.ensures.goes honest free w) }

pub returns : goal.returns
returns g c = record { goes = λ honest free w. c.put_each.ensures.goes honest (c.enlist-2.ensures.goes honest (c.enlist.ensures.next honest refl free w) (c.enlist.ensures.goes honest free w)) }
