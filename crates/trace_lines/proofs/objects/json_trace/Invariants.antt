use Rattle.std.proofs.Common.{◌≡◌, take}
use Rattle.trace_lines.proofs.Arrays.{array_so_far}
use Rattle.trace_lines.proofs.objects.json_trace.Given as goal

abbrev pub invariant-loop-index : goal.invariant-loop-index
invariant-loop-index l = l.text.items ≡ array_so_far (take l.index l.t)
