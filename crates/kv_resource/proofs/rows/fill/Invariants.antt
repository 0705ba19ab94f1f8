use Rattle.std.proofs.Common.{◌≡◌, ◌+◌, ◌-◌, ◌*◌, ◌≤◌, drop, length, vec_len, vec_capacity}
use Rattle.kv_resource.specs.Store.{open_records, table_of, table_onto}
use Rattle.kv_resource.specs.Table.{IsRising, unmarked_in}
use Rattle.kv_resource.proofs.rows.fill.Given as goal

abbrev pub invariant-loop-slot : goal.invariant-loop-slot
invariant-loop-slot l = record {
  rises : IsRising l.rows.items;
  items : table_onto l.rows.items (open_records (drop l.slot-index l.slots)) ≡ table_of (open_records l.slots);
  room : vec_len l.rows + 40 * (length l.slots - l.slot-index) + 40 * unmarked_in l.slots ≤ vec_capacity l.rows + 40 * unmarked_in (drop l.slot-index l.slots);
}
