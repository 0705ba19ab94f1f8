use Rattle.ledger_book.proofs.Within.{called}
use Rattle.ledger_book.proofs.book.Book.roll_back.Goals as goal

pub returns : goal.returns
returns g c = record {
  goes = λ honest w.
      let e = c.rollback.ensures in
      (called g.D.Disk.honest g.D.Disk.image g.D.Disk.faults c.args.tx.now.number c.args.self.now (record { manager = c.rollback.new.self; stores = c.rollback.new.o }) c.call_keeps_all_or_nothing.ensures honest c.has_run.ensures c.has_run-2.ensures
      e.heard e.others e.time w).0;
}
