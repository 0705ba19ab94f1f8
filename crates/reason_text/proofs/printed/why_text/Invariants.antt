use Rattle.std.proofs.Common.{◌≡◌, map, take}
use Rattle.std.specs.List.{flat_map}
use Rattle.outcome_reasons.specs.Whys.{by_number}
use Rattle.reason_text.specs.Sentences.{why_line}
use Rattle.reason_text.proofs.printed.why_text.Given as goal

abbrev pub invariant-loop-x : goal.invariant-loop-x
invariant-loop-x l = l.text.items ≡ flat_map why_line (map by_number (take l.x-index l.x-items))
