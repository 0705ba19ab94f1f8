use Rattle.std.proofs.Common.{subst, sym}
use Rattle.ledger_book.specs.Whole.{IsWriting}
use Rattle.ledger_book.specs.declared.stores.Stores.{Stores}
use Rattle.ledger_book.proofs.Within.{from_err, from_ok, put_done}
use Rattle.ledger_book.proofs.book.Book.put.Goals as goal

pub returns-in-Some-Ok : goal.returns-in-Some-Ok
returns-in-Some-Ok g c = record {
  goes = λ honest w.
      let e = c.in-Some-Ok.ensures in
      put_done g.D.Disk.honest g.D.Disk.image c.args.tx.now.number c.args.w.0 c.args.w.1 c.args.self.now c.put.new.self c.objects_keep_all_or_nothing.ensures c.kv_holds.ensures.put e.enlisted (λ x side is. from_ok c.in-Some-Ok.field-0 _ c.in-Some-Ok.field-0-is (e.left x side is)) (λ x side is. from_ok c.in-Some-Ok.field-0 _ c.in-Some-Ok.field-0-is (e.right x side is)) w;
}

pub returns-in-Some-Err-Memory : goal.returns-in-Some-Err-Memory
returns-in-Some-Err-Memory g c = record {
  goes = λ honest w. subst (λ (s : Stores _). IsWriting g.D.Disk.honest g.D.Disk.image c.args.tx.now.number (record { manager = c.args.self.now.manager; stores = s })) (sym (from_err c.in-Some-Err-Memory.field-0 _ c.in-Some-Err-Memory.field-0-is c.in-Some-Err-Memory.ensures.kept)) w;
}

pub returns-in-Some-Err : goal.returns-in-Some-Err
returns-in-Some-Err g c = record {
  goes = λ honest w. subst (λ (s : Stores _). IsWriting g.D.Disk.honest g.D.Disk.image c.args.tx.now.number (record { manager = c.args.self.now.manager; stores = s })) (sym (from_err c.in-Some-Err.field-0 _ c.in-Some-Err.field-0-is c.in-Some-Err.ensures.kept)) w;
}

pub returns-in-None : goal.returns-in-None
returns-in-None g c = record {
  goes = λ honest w. subst (λ (s : Stores _). IsWriting g.D.Disk.honest g.D.Disk.image c.args.tx.now.number (record { manager = c.args.self.now.manager; stores = s })) (sym c.in-None.ensures.none.0) w;
}
