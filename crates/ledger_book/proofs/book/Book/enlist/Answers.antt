use Rattle.std.proofs.Common.{◌≡◌, ◌∙◌, ap, subst, sym}
use Rattle.record_laws.specs.Recorded.{IsOf}
use Rattle.ledger_book.specs.Whole.{IsWriting}
use Rattle.ledger_book.specs.declared.stores.Stores.{Stores}
use Rattle.ledger_book.proofs.Within.{called, enlisted, left_free, still_free}
use Rattle.ledger_book.proofs.book.Book.enlist.Goals as goal

pub returns-in-Ok-clause-goes : goal.returns-in-Ok-clause-goes
returns-in-Ok-clause-goes g c = λ honest free w.
    let t = c.args.tx.now.number in
    let m = c.enlist_durable-enlisted.new.self in
    let o = c.enlist_durable-enlisted.new.o in
    let on =
    called g.D.Disk.honest g.D.Disk.image g.D.Disk.faults c.args.tx.now.number c.args.self.now (record { manager = c.enlist_durable-enlisted.new.self; stores = c.enlist_durable-enlisted.new.o }) c.call_keeps_all_or_nothing.ensures
    honest c.has_run.ensures c.has_run-2.ensures c.enlist_durable-enlisted.ensures.heard c.enlist_durable-enlisted.ensures.others c.enlist_durable-enlisted.ensures.time w in
    let of = c.in-Ok.ensures.manager in
    subst (λ (s : Stores _). IsWriting g.D.Disk.honest g.D.Disk.image t (record { manager = m; stores = s })) (sym c.enlist.ensures)
    (enlisted g.D.Disk.honest g.D.Disk.image t c.args.side c.in-Ok.e (record { manager = m; stores = o }) c.objects_keep_all_or_nothing.ensures (still_free c.args.side c.args.self.now.stores o on.1 free) c.in-Ok.ensures.enlisted.0
    (λ z at. subst (λ k. IsOf z.tx.world k c.in-Ok.e.number.value) c.manager.ensures (of z at)) on.0)

pub returns-in-Ok-clause-next : goal.returns-in-Ok-clause-next
returns-in-Ok-clause-next g c = λ honest side free w.
    let on =
    called g.D.Disk.honest g.D.Disk.image g.D.Disk.faults c.args.tx.now.number c.args.self.now (record { manager = c.enlist_durable-enlisted.new.self; stores = c.enlist_durable-enlisted.new.o }) c.call_keeps_all_or_nothing.ensures
    honest c.has_run.ensures c.has_run-2.ensures c.enlist_durable-enlisted.ensures.heard c.enlist_durable-enlisted.ensures.others c.enlist_durable-enlisted.ensures.time w in
    left_free c.args.side c.in-Ok.e c.args.self.now.stores c.enlist_durable-enlisted.new.o c.enlist.new.self side on.1 c.enlist.ensures free

pub returns-in-Err-clause-goes : goal.returns-in-Err-clause-goes
returns-in-Err-clause-goes g c = λ honest free w.
    let on =
    called g.D.Disk.honest g.D.Disk.image g.D.Disk.faults c.args.tx.now.number c.args.self.now (record { manager = c.enlist_durable-enlisted.new.self; stores = c.enlist_durable-enlisted.new.o }) c.call_keeps_all_or_nothing.ensures
    honest c.has_run.ensures c.has_run-2.ensures c.enlist_durable-enlisted.ensures.heard c.enlist_durable-enlisted.ensures.others c.enlist_durable-enlisted.ensures.time w in
    on.0

pub returns-in-Err-clause-next : goal.returns-in-Err-clause-next
returns-in-Err-clause-next g c = λ honest side free w.
    let on =
    called g.D.Disk.honest g.D.Disk.image g.D.Disk.faults c.args.tx.now.number c.args.self.now (record { manager = c.enlist_durable-enlisted.new.self; stores = c.enlist_durable-enlisted.new.o }) c.call_keeps_all_or_nothing.ensures
    honest c.has_run.ensures c.has_run-2.ensures c.enlist_durable-enlisted.ensures.heard c.enlist_durable-enlisted.ensures.others c.enlist_durable-enlisted.ensures.time w in
    on.1.1 ∙ free.1
