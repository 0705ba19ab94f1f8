use Rattle.std.specs.Prelude.{IsTrue}
use Rattle.ledger_book.specs.Whole.{IsWriting}
use Rattle.ledger_book.proofs.book.Book.put_each.Given as goal

abbrev pub invariant-loop-w : goal.invariant-loop-w
invariant-loop-w g l = IsTrue g.D.Disk.honest → IsWriting g.D.Disk.honest g.D.Disk.image l.tx.number l.fn.self → IsWriting g.D.Disk.honest g.D.Disk.image l.tx.number l.self
