use Rattle.std.proofs.Common.{◌≡◌, ◌++◌, map, take}
use Rattle.dtx_model.specs.Words.{past_of}
use Rattle.std.specs.List.{flat_map, range_with_len}
use Rattle.outcome_reasons.specs.Whys.{by_number}
use Rattle.trace_page.specs.Page.{section_if}
use Rattle.trace_picture.specs.Rows.{rows}
use Rattle.trace_page.proofs.sheet.push_sections.Given as goal

abbrev pub invariant-loop-i : goal.invariant-loop-i
invariant-loop-i l = l.text.items ≡ l.fn.text.items ++ flat_map (λ t. section_if l.script (map by_number l.whys) t (rows t (past_of l.trace))) (take l.i (range_with_len 1 256))
