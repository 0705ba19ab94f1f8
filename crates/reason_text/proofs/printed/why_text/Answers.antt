use Rattle.std.proofs.Common.{ap, arith, map, ◌∙◌}
use Rattle.std.specs.List.{flat_map}
use Rattle.std.proofs.lemmas.List.{take_all}
use Rattle.outcome_reasons.specs.Whys.{by_number}
use Rattle.reason_text.specs.Sentences.{why_line, why_text}
use Rattle.reason_text.proofs.printed.why_text.Goals as goal

pub returns : goal.returns
unfolding why_text
returns c =
    record { text = c.loop-x.invariant ∙ ap (flat_map why_line) (ap (map by_number) (take_all c.loop-x.x-index c.deref-x-items.result.now (omega (arith, c.loop-x-test.false)) ∙ c.deref-x-items.ensures.value) ∙ c.in_ok-lines.ensures.whys) }
