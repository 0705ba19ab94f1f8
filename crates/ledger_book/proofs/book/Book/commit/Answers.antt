use Rattle.ledger_book.proofs.Within.{called}
use Rattle.ledger_book.proofs.book.Book.commit.Goals as goal

pub returns : goal.returns
returns g c = record {
  goes = λ honest w.
      let e = c.commit-done.ensures in
      (called g.D.Disk.honest g.D.Disk.image g.D.Disk.faults c.args.tx.now.number c.args.self.now (record { manager = c.commit-done.new.self; stores = c.commit-done.new.o }) c.call_keeps_all_or_nothing.ensures honest c.has_run.ensures c.has_run-2.ensures
      e.heard e.others e.time w).0;
}
