use Rattle.std.proofs.Common.{◌≡◌, ◌∙◌, ◌++◌, ◌∷◌, [], List, map, ap, refl, subst}
use Rattle.std.specs.Prelude.{IsTrue}
use Rattle.dtx_values.specs.declared.number.RmNo.{RmNo}
use Rattle.coordinator_log.specs.Slots.{open_records}
use Rattle.kv_resource.specs.Held.{holdings_of}
use Rattle.recovery_laws.specs.Finding.{settled}
use Rattle.transactions.specs.Recovery.{number_of_manager}
use Rattle.ledger_book.specs.Whole.{IsFound, LeavesWhole}
use Rattle.ledger_book.proofs.Recovered.{LeftDone, both_whole, left_done, left_leaves, right_leaves}
use Rattle.ledger_book.proofs.Recovering.{both_ended}
use Rattle.ledger_book.proofs.Within.{from_ok}
use Rattle.ledger_book.proofs.book.Book.recover.Goals as goal

pub returns-in-Err-clause-leaves : goal.returns-in-Err-clause-leaves
returns-in-Err-clause-leaves g c = λ honest f whole.
    left_leaves g.D.Disk.honest g.D.Disk.image g.D.Disk.faults c.recovery_one_by_one.ensures c.args.self.now c.new-desk.result c.manager-rm.result c.recover_store.new.manager c.recover_store.new.store honest f whole (ap (map number_of_manager) c.new-desk.ensures) c.manager-rm.ensures c.recover_store.ensures.leaves

pub returns-in_err-add-clause-leaves : goal.returns-in_err-add-clause-leaves
returns-in_err-add-clause-leaves g c = λ honest f whole.
    left_leaves g.D.Disk.honest g.D.Disk.image g.D.Disk.faults c.recovery_one_by_one.ensures c.args.self.now c.new-desk.result c.manager-rm.result c.recover_store.new.manager c.recover_store.new.store honest f whole (ap (map number_of_manager) c.new-desk.ensures) c.manager-rm.ensures c.recover_store.ensures.leaves

pub returns-in-Err-recover_store-clause-leaves : goal.returns-in-Err-recover_store-clause-leaves
returns-in-Err-recover_store-clause-leaves g c = λ honest f whole.
    let d =
    left_done g.D.Disk.honest g.D.Disk.image g.D.Disk.faults c.args.self.now c.new-desk.result c.recover_store.new.desk c.manager-rm.result c.recover_store.new.manager c.recover_store.new.store honest f whole (ap (map number_of_manager) c.new-desk.ensures) c.manager-rm.ensures c.recover_store.ensures.leaves c.in-Ok.ensures.ends in
    right_leaves g.D.Disk.honest g.D.Disk.image g.D.Disk.faults c.recovery_one_by_one.ensures c.args.self.now c.recover_store.new.manager c.recover_store.new.store c.recover_store.new.desk c.manager-rm-2.result c.recover_store-2.new.manager c.recover_store-2.new.store honest f whole d
    (ap (map number_of_manager) (c.in-Ok.ensures.ends.added ∙ ap (λ (d : List RmNo). d ++ c.manager-rm.result ∷ []) c.new-desk.ensures) ∙ ap (λ m. m ∷ []) c.manager-rm.ensures) c.manager-rm-2.ensures c.recover_store-2.ensures.leaves

pub returns-in_err-add-2-clause-leaves : goal.returns-in_err-add-2-clause-leaves
returns-in_err-add-2-clause-leaves g c = λ honest f whole.
    let d =
    left_done g.D.Disk.honest g.D.Disk.image g.D.Disk.faults c.args.self.now c.new-desk.result c.recover_store.new.desk c.manager-rm.result c.recover_store.new.manager c.recover_store.new.store honest f whole (ap (map number_of_manager) c.new-desk.ensures) c.manager-rm.ensures c.recover_store.ensures.leaves c.in-Ok.ensures.ends in
    right_leaves g.D.Disk.honest g.D.Disk.image g.D.Disk.faults c.recovery_one_by_one.ensures c.args.self.now c.recover_store.new.manager c.recover_store.new.store c.recover_store.new.desk c.manager-rm-2.result c.recover_store-2.new.manager c.recover_store-2.new.store honest f whole d
    (ap (map number_of_manager) (c.in-Ok.ensures.ends.added ∙ ap (λ (d : List RmNo). d ++ c.manager-rm.result ∷ []) c.new-desk.ensures) ∙ ap (λ m. m ∷ []) c.manager-rm.ensures) c.manager-rm-2.ensures c.recover_store-2.ensures.leaves

pub returns-clause-leaves : goal.returns-clause-leaves
returns-clause-leaves g c = λ honest f whole.
    let d =
    left_done g.D.Disk.honest g.D.Disk.image g.D.Disk.faults c.args.self.now c.new-desk.result c.recover_store.new.desk c.manager-rm.result c.recover_store.new.manager c.recover_store.new.store honest f whole (ap (map number_of_manager) c.new-desk.ensures) c.manager-rm.ensures c.recover_store.ensures.leaves c.in-Ok.ensures.ends in
    right_leaves g.D.Disk.honest g.D.Disk.image g.D.Disk.faults c.recovery_one_by_one.ensures c.args.self.now c.recover_store.new.manager c.recover_store.new.store c.recover_store.new.desk c.manager-rm-2.result c.recover_store-2.new.manager c.recover_store-2.new.store honest f whole d
    (ap (map number_of_manager) (c.in-Ok.ensures.ends.added ∙ ap (λ (d : List RmNo). d ++ c.manager-rm.result ∷ []) c.new-desk.ensures) ∙ ap (λ m. m ∷ []) c.manager-rm.ensures) c.manager-rm-2.ensures c.recover_store-2.ensures.leaves

pub returns-clause-whole : goal.returns-clause-whole
returns-clause-whole g c = λ honest f whole.
    let d =
    left_done g.D.Disk.honest g.D.Disk.image g.D.Disk.faults c.args.self.now c.new-desk.result c.recover_store.new.desk c.manager-rm.result c.recover_store.new.manager c.recover_store.new.store honest f whole (ap (map number_of_manager) c.new-desk.ensures) c.manager-rm.ensures c.recover_store.ensures.leaves c.in-Ok.ensures.ends in
    let leaves =
    right_leaves g.D.Disk.honest g.D.Disk.image g.D.Disk.faults c.recovery_one_by_one.ensures c.args.self.now c.recover_store.new.manager c.recover_store.new.store c.recover_store.new.desk c.manager-rm-2.result c.recover_store-2.new.manager c.recover_store-2.new.store honest f whole d
    (ap (map number_of_manager) (c.in-Ok.ensures.ends.added ∙ ap (λ (d : List RmNo). d ++ c.manager-rm.result ∷ []) c.new-desk.ensures) ∙ ap (λ m. m ∷ []) c.manager-rm.ensures) c.manager-rm-2.ensures c.recover_store-2.ensures.leaves in
    both_whole g.D.Disk.honest g.D.Disk.image g.D.Disk.faults c.args.self.now c.new-desk.result c.recover_store.new.desk c.manager-rm.result c.recover_store.new.manager c.recover_store.new.store c.recover_store.new.desk c.recover_store-2.new.desk c.manager-rm-2.result
    c.recover_store-2.new.manager c.recover_store-2.new.store c.kv_holds.ensures.opened f d c.manager-rm.ensures c.manager-rm-2.ensures c.recover_store.ensures.leaves c.in-Ok.ensures.ends c.recover_store-2.ensures.leaves
    c.in-Ok-recover_store.ensures.ends leaves

pub returns-clause-ended : goal.returns-clause-ended
returns-clause-ended g c =
    let old = c.args.self.now in
    let m = c.recover_store.new.manager in
    let n = c.recover_store-2.new.manager in
    let left = c.recover_store.new.store in
    let right = c.recover_store-2.new.store in
    let rs = open_records old.manager.log.slots in
    let ps = open_records m.log.slots in
    let a = c.in-Ok.ensures.ends in
    let b = c.in-Ok-recover_store.ensures.ends in
    both_ended c.new-desk.result c.recover_store.new.desk c.recover_store-2.new.desk rs ps (open_records n.log.slots) old.stores.left old.stores.right left old.stores.right left right c.recovery_one_by_one.ensures c.new-desk.ensures
    (record {
      manager = c.manager-rm.result;
      numbered = c.manager-rm.ensures;
      added = a.added;
      one = a.one;
      held = subst (λ k. holdings_of left ≡ settled rs k (holdings_of old.stores.left)) c.manager-rm.ensures a.settles.settled;
      other = refl;
    })
    (record {
      manager = c.manager-rm-2.result;
      numbered = c.manager-rm-2.ensures;
      added = b.added;
      one = b.one;
      held = subst (λ k. holdings_of right ≡ settled ps k (holdings_of old.stores.right)) c.manager-rm-2.ensures b.settles.settled;
      other = refl;
    })
