use Rattle.std.proofs.Common.{◌≡◌, ◌-◌, ◌≤◌, length, drop, replicate}
use Rattle.outside.proofs.sheet.blank_from.Given as goal

abbrev pub invariant-loop-end : goal.invariant-loop-end
invariant-loop-end l = record {
  within : l.end ≤ length l.bytes;
  blank : drop l.end l.bytes ≡ replicate (length l.bytes - l.end) 0;
}

abbrev pub decreases-loop-end : goal.decreases-loop-end
decreases-loop-end l = l.end
