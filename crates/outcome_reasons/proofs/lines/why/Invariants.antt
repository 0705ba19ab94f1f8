use Rattle.std.proofs.Common.{◌≡◌, map, take}
use Rattle.std.specs.List.{flat_map, range_with_len}
use Rattle.dtx_model.specs.Words.{past_of}
use Rattle.outcome_reasons.specs.Whys.{by_number, whys_of}
use Rattle.outcome_reasons.proofs.lines.why.Given as goal

abbrev pub invariant-loop-i : goal.invariant-loop-i
invariant-loop-i l = map by_number l.all.items ≡ flat_map (whys_of l.script (past_of l.trace)) (take l.i (range_with_len 1 256))
