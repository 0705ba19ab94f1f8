use Rattle.std.proofs.Common.{◌≡◌, drop}
use Rattle.dtx_model.specs.Log.{same_at}
use Rattle.slotted.proofs.bytes.same.Given as goal

abbrev pub invariant-loop-i : goal.invariant-loop-i
invariant-loop-i l = same_at l.i (drop l.i l.want) (drop l.i l.b) ≡ same_at 0 l.want l.b
