use Rattle.ledger_book.proofs.Making.{all_made}
use Rattle.ledger_book.proofs.book.Book.make.Goals as goal

pub returns-in-Ok-format : goal.returns-in-Ok-format
returns-in-Ok-format g c = record {
  whole = λ honest.
      let e = c.with_right.ensures in
      let m = c.in-Ok.ensures in
      let l = c.in-Ok-format.ensures in
      let r = c.format-in-Ok-format.ensures in
      all_made g.D.Disk.honest g.D.Disk.image c.in-Ok.manager c.in-Ok-format.left c.format-in-Ok-format.result c.with_right.result (record { manager_is = e.manager; left_is = e.left; right_is = e.right; many = e.many }) c.kv_holds.ensures.opened
      m.made.0 m.last.1 (m.images honest) l.empty l.up l.images r.empty r.up r.images;
}
