use Rattle.std.specs.Prelude.{IsTrue, is_ok, replicate}
use Rattle.std.proofs.Common.{◌≡◌, ◌∙◌, ap, sym, refl, arith, zero, suc, ℕ, List, [], None, Ok, length}
use Rattle.slotted.proofs.Blanks.{all_closed, blank_head, blank_slots}
use Rattle.slotted.proofs.SlotReads.{file_agrees}
use Rattle.kv_resource.specs.Bytes.{KvRecord}
use Rattle.kv_resource.specs.Images.{IsStored}
use Rattle.kv_resource.specs.Store.{open_records, table_of}
use Rattle.kv_resource.proofs.Files.{kv_file, kv_reads}
use Rattle.kv_resource.proofs.Under.{unmarked_most}
use Rattle.kv_resource.proofs.kv.Kv.format.Goals as goal

-- closed slots have no records
none_open : (n : ℕ) → open_records (replicate n None) ≡ []
none_open zero = refl
none_open (suc n) = none_open n

pub invariant_of-result : goal.invariant_of-result
invariant_of-result g c =
    let ss = c.close_all.new.slots.items in
    let empty : open_records ss ≡ [] = ap open_records c.close_all.ensures.closed ∙ none_open (length ss) in
    let stored : IsTrue g.D.Disk.honest → IsStored (g.D.Disk.seen c.blank.new.disk) (g.D.Disk.image c.blank.new.disk) ss =
    λ h. record {
      at_head = blank_head c.store_head.result (g.D.Disk.seen c.blank.new.disk) c.blank.ensures.long (c.in-Ok-blank.ensures.blank h) ∙ c.store_head.ensures;
      on_disk = blank_slots kv_reads c.store_head.result (g.D.Disk.seen c.blank.new.disk) (length ss) c.blank.ensures.long c.close_all.ensures.many (c.in-Ok-blank.ensures.blank h) ∙ sym (all_closed ss empty);
      durable = c.in-Ok-blank.ensures.durable h;
    } in (
      record {
        stored = λ h up. stored h;
        whole = λ h f left. ap is_ok (file_agrees kv_file _ _ ss (stored h) f left);
        room = omega (arith, c.blank.ensures.size, c.requires);
        many = c.close_all.ensures.many;
      },
      record {
        is = c.in-Ok-row_room.ensures.empty ∙ sym (ap table_of empty);
        room = omega (arith, unmarked_most ss, c.close_all.ensures.many, ap length c.in-Ok-row_room.ensures.empty, c.in-Ok-row_room.ensures.room);
      },
    )

pub returns-clause-empty : goal.returns-clause-empty
returns-clause-empty g c = ap open_records c.close_all.ensures.closed ∙ none_open (length c.close_all.new.slots.items)

pub returns-clause-images : goal.returns-clause-images
returns-clause-images g c h f left =
    let ss = c.close_all.new.slots.items in
    let empty : open_records ss ≡ [] = ap open_records c.close_all.ensures.closed ∙ none_open (length ss) in
    let stored : IsStored (g.D.Disk.seen c.blank.new.disk) (g.D.Disk.image c.blank.new.disk) ss =
    record {
      at_head = blank_head c.store_head.result (g.D.Disk.seen c.blank.new.disk) c.blank.ensures.long (c.in-Ok-blank.ensures.blank h) ∙ c.store_head.ensures;
      on_disk = blank_slots kv_reads c.store_head.result (g.D.Disk.seen c.blank.new.disk) (length ss) c.blank.ensures.long c.close_all.ensures.many (c.in-Ok-blank.ensures.blank h) ∙ sym (all_closed ss empty);
      durable = c.in-Ok-blank.ensures.durable h;
    } in
    file_agrees kv_file _ _ ss stored f left ∙ ap (λ (rs : List KvRecord). Ok rs) empty
