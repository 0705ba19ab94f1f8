use Rattle.std.proofs.Common.{◌≡◌, ◌+◌, ◌-◌, ◌*◌, length, None, true}
use Rattle.kv_resource.specs.Bytes.{are_spelled, writes_at}
use Rattle.slotted.proofs.Fronts.{with_front}
use Rattle.kv_resource.proofs.Loops.{last_key}
use Rattle.kv_resource.proofs.reading.read_writes.Given as goal

abbrev pub invariant-loop-i : goal.invariant-loop-i
invariant-loop-i l = record {
  read : with_front l.writes.items (writes_at (l.n - l.i) (12 + 12 * l.i) l.before l.rest) ≡ writes_at l.n 12 None l.b;
  count : length l.writes.items ≡ l.i;
  last : last_key None l.writes.items ≡ l.before;
  spelled : are_spelled None l.writes.items ≡ true;
  long : length l.rest + 12 * l.i ≡ 495;
}
