use Rattle.std.proofs.Common.{◌≡◌, ◌+◌, ◌<◌, ◌++◌, ℕ, IfSome, List, Option, ap, arith, map, subst, sym, ◌∙◌}
use Rattle.std.specs.List.{flat_map, range_with_len}
use Rattle.std.proofs.lemmas.List.{take_all}
use Rattle.std.proofs.lemmas.List.FromFn.{get_or-range_with_len, length-range_with_len}
use Rattle.dtx_values.specs.declared.number.TxNo.{TxNo}
use Rattle.dtx_model.specs.Words.{past_of}
use Rattle.outcome_reasons.specs.Whys.{by_number}
use Rattle.outcome_reasons.proofs.Adding.{part-more}
use Rattle.trace_page.specs.Page.{section_if, sections}
use Rattle.trace_picture.specs.Rows.{rows}
use Rattle.trace_page.proofs.sheet.push_sections.Goals as goal

pub loop-i-preserved : goal.loop-i-preserved
loop-i-preserved c =
    let s = c.args.script.now in
    let ws = map by_number c.args.whys.now in
    let T = past_of c.args.trace.now in
    let i = c.loop-i.i in
    let f : ℕ → List ℕ = λ t. section_if s ws t (rows t T) in
    let within : i < 256 = omega (arith, c.loop-i-test.true) in
    let number : c.unwrap-t.result.value ≡ 1 + i = subst (λ (o : Option TxNo). IfSome o (λ x. x.value ≡ i + 1)) c.unwrap-t.ensures c.new.ensures.value ∙ omega arith in
    let own : c.in_ok-rows.rows ≡ rows (1 + i) T = c.in_ok-rows.ensures.rows ∙ ap (λ n. rows n T) number in
    c.in_ok-push_section.ensures ∙ (λ j. c.loop-i.invariant j ++ section_if s ws (number j) (own j))
    ∙ part-more f c.args.text.now.items (range_with_len 1 256) i (1 + i) (subst (λ n. i < n) (sym (length-range_with_len 1 256)) within) (sym (get_or-range_with_len 1 256 i (1 + i) within))

pub returns : goal.returns
unfolding sections
returns c =
    let s = c.args.script.now in
    let ws = map by_number c.args.whys.now in
    let T = past_of c.args.trace.now in
    let f : ℕ → List ℕ = λ t. section_if s ws t (rows t T) in
    c.loop-i.invariant ∙ ap (λ (ts : List ℕ). c.args.text.now.items ++ flat_map f ts) (take_all c.loop-i.i (range_with_len 1 256) (omega (arith, c.loop-i-test.false, length-range_with_len 1 256)))
