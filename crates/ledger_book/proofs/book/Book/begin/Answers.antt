use Rattle.std.proofs.Common.{sym, subst}
use Rattle.ledger_book.proofs.Within.{begun, not_begun}
use Rattle.ledger_book.proofs.book.Book.begin.Goals as goal

pub returns-in-Err-clause-refused : goal.returns-in-Err-clause-refused
returns-in-Err-clause-refused g c = λ honest whole.
    let e = c.begin.ensures in
    not_begun g.D.Disk.honest g.D.Disk.image c.args.self.now.manager c.begin.new.self c.args.self.now.stores c.refusal_keeps_all_or_nothing.ensures c.in-Err.ensures.refused e.rises
    (e.log.untouched honest) whole

pub returns-clause-begun : goal.returns-clause-begun
returns-clause-begun g c = λ honest free whole.
    let e = c.in-Ok.ensures in
    begun g.D.Disk.honest g.D.Disk.image g.D.Disk.faults c.in-Ok.tx.number _ c.args.self.now.manager c.begin.new.self c.args.self.now.stores c.beginning_keeps_all_or_nothing.ensures honest free e.begun c.has_run.ensures e.above
    (c.begin.ensures.log.untouched honest) e.others whole
