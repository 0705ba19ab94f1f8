use Rattle.std.proofs.Common.{◌+◌, ap, ◌∙◌, arith, drop}
use Rattle.kv_resource.specs.Store.{open_records, table_onto}
use Rattle.kv_resource.proofs.Rising.{Rows}
use Rattle.kv_resource.proofs.Under.{slot_more, unmarked_fewer, unmarked_more}
use Rattle.kv_resource.proofs.rows.fill.Goals as goal

pub put_slot-requires-clause-room : goal.put_slot-requires-clause-room
put_slot-requires-clause-room c = let room = c.loop-slot.invariant.room in omega (arith, room, unmarked_fewer c.args.slots.now c.loop-slot.slot-index, c.loop-slot-test.true)

pub loop-slot-preserved : goal.loop-slot-preserved
loop-slot-preserved c =
    let ss = c.args.slots.now in
    let i = c.loop-slot.slot-index in
    let s = c.slot-item.result in
    let old = c.loop-slot.invariant in
    let more = slot_more c.loop-slot.rows.items ss i s c.loop-slot-test.true c.slot-item.is in
    let left = unmarked_more ss i s c.loop-slot-test.true c.slot-item.is in
    record {
      rises = c.put_slot.ensures.rises;
      items = ap (λ (l : Rows). table_onto l (open_records (drop (i + 1) ss))) c.put_slot.ensures.items ∙ more ∙ old.items;
      room = omega (arith, left, old.room, c.put_slot.ensures.few, c.put_slot.ensures.capacity, c.loop-slot-test.true);
    }
