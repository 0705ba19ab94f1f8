use Rattle.std.proofs.Common.{ap, subst, sym}
use Rattle.transactions.specs.declared.handle.CommittableTransaction.{CommittableTransaction}
use Rattle.ledger_book.proofs.Within.{AllOrNothing, ended, released}
use Rattle.ledger_book.proofs.book.Book.finish.Goals as goal

pub returns-in-Ok : goal.returns-in-Ok
returns-in-Ok g c = record {
  whole = λ honest w.
      let e = c.in-Ok.ensures in
      subst (λ s. AllOrNothing g.D.Disk.honest g.D.Disk.image c.end.new.self s) (sym c.leave.ensures)
      (ended g.D.Disk.honest g.D.Disk.image c.args.tx.number c.args.self.now c.end.new.self c.end_keeps_all_or_nothing.ensures c.objects_keep_all_or_nothing.ensures e.gone e.others e.rest w);
}

pub returns-in-Err : goal.returns-in-Err
returns-in-Err g c = record {
  whole = λ honest w.
      let e = c.release.ensures in
      let back = c.in-Err.ensures.refused in
      released g.D.Disk.honest g.D.Disk.image c.args.tx.number c.in-Err.tx.number c.args.self.now c.end.new.self c.release.new.self c.end_keeps_all_or_nothing.ensures (ap (λ (x : CommittableTransaction). x.number) back.0) (ap (λ b. b) back.1)
      e.left e.others e.rest w;
}
