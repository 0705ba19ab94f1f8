use Rattle.ledger_book.proofs.Opening.{found}
use Rattle.ledger_book.proofs.book.Book.open.Goals as goal

pub returns-in-Ok-from_disk : goal.returns-in-Ok-from_disk
returns-in-Ok-from_disk g c = record {
  found = λ honest left_low right_low.
      let e = c.with_right.ensures in
      let m = c.in-Ok.ensures in
      let l = c.in-Ok-from_disk.ensures in
      let r = c.from_disk-in-Ok-from_disk.ensures in
      found g.D.Disk.honest g.D.Disk.image g.D.Disk.faults c.in-Ok.manager c.in-Ok-from_disk.left c.from_disk-in-Ok-from_disk.result (g.D.Disk.faults c.args.disks.left) (g.D.Disk.faults c.args.disks.right) c.with_right.result
      (record { manager_is = e.manager; left_is = e.left; right_is = e.right; many = e.many }) e.free m.opened.0 m.opened.1 m.last (m.images honest) l.up l.images l.earlier l.smooth left_low r.up r.images r.earlier r.smooth right_low;
}
