use Rattle.std.proofs.Common.{◌≡◌, ◌+◌, ◌-◌, ◌≤◌, drop, length, vec_len, vec_capacity}
use Rattle.kv_resource.specs.Table.{IsRising, with_writes_under}
use Rattle.kv_resource.proofs.rows.put_rows.Given as goal

abbrev pub invariant-loop-w : goal.invariant-loop-w
invariant-loop-w l = record {
  rises : IsRising l.rows.items;
  items : with_writes_under l.later (drop l.w-index l.writes) l.rows.items ≡ with_writes_under l.later l.writes l.initial.rows.items;
  few : vec_len l.rows + (length l.writes - l.w-index) ≤ vec_len l.initial.rows + length l.writes;
  capacity : vec_capacity l.initial.rows ≤ vec_capacity l.rows;
}
