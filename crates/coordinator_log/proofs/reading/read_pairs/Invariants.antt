use Rattle.std.proofs.Common.{◌≡◌, ◌+◌, ◌-◌, ◌*◌, length, take, map}
use Rattle.dtx_values.specs.RecoveryInfo.{pair_of}
use Rattle.dtx_model.specs.Log.{pairs_at}
use Rattle.slotted.proofs.Fronts.{with_front}
use Rattle.coordinator_log.proofs.reading.read_pairs.Given as goal

abbrev pub invariant-loop-i : goal.invariant-loop-i
invariant-loop-i l = record {
  read : with_front (map pair_of (take l.r.count l.r.durables)) (pairs_at (l.n - l.i) (20 + 20 * l.i) l.rest) ≡ pairs_at l.n 20 l.b;
  count : l.r.count ≡ l.i;
  id : l.r.id ≡ l.id;
  long : length l.rest + 20 * l.i ≡ 492;
}
