use Rattle.std.proofs.Common.{take}
use Rattle.line_tail.specs.Cut.{IsWithout}
use Rattle.line_tail.proofs.cuts.cut.Given as goal

abbrev pub invariant-loop-i : goal.invariant-loop-i
invariant-loop-i l = IsWithout l.separator (take l.i l.bytes)
