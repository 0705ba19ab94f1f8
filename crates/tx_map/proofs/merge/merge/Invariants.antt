use Rattle.std.proofs.Common.{◌≡◌, ◌+◌, ◌-◌, ◌≤◌, ◌++◌, drop, length, vec_len, vec_capacity}
use Rattle.tx_map.specs.Live.{entry_key, own}
use Rattle.tx_map.specs.Notes.{moved}
use Rattle.tx_map.specs.Order.{IsRising}
use Rattle.tx_map.proofs.merge.merge.Given as goal

abbrev pub invariant-loop-w : goal.invariant-loop-w
invariant-loop-w l = record {
  rises : IsRising entry_key l.rest;
  items : l.out.items ++ moved (own (l.t, l.e) (drop l.w-index l.live)) l.rest ≡ l.initial.out.items ++ moved (own (l.t, l.e) l.live) l.base;
  room : vec_len l.out + (length l.rest + (length l.live - l.w-index)) ≤ vec_capacity l.out;
  capacity : vec_capacity l.initial.out ≤ vec_capacity l.out;
}
