use Rattle.std.proofs.Common.{◌≡◌, ◌++◌, map, take}
use Rattle.dtx_model.specs.Words.{}
use Rattle.std.specs.List.{flat_map}
use Rattle.outcome_reasons.specs.Whys.{by_number}
use Rattle.trace_page.specs.Page.{paragraph_of}
use Rattle.trace_page.proofs.sheet.push_paragraphs.Given as goal

abbrev pub invariant-loop-x : goal.invariant-loop-x
invariant-loop-x l = l.text.items ≡ l.fn.text.items ++ flat_map (paragraph_of l.t.value) (map by_number (take l.x-index l.whys))
