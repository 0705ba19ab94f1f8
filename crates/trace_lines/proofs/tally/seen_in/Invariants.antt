use Rattle.std.proofs.Common.{◌≡◌, take}
use Rattle.trace_lines.specs.Summary.{all_seen}
use Rattle.trace_lines.proofs.tally.seen_in.Given as goal

abbrev pub invariant-loop-index : goal.invariant-loop-index
invariant-loop-index l = l.seen ≡ all_seen (take l.index l.t)
