use Rattle.std.proofs.Common.{length}
use Rattle.put_lines.specs.Input.{HasPuts}
use Rattle.put_lines.proofs.fronts.read_front.Given as goal

abbrev pub invariant-loop-rest : goal.invariant-loop-rest
invariant-loop-rest l = HasPuts l.bytes l.puts.items l.rest

abbrev pub decreases-loop-rest : goal.decreases-loop-rest
decreases-loop-rest l = length l.rest
