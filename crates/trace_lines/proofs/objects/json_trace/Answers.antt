use Rattle.std.proofs.Common.{◌≡◌, ◌+◌, ◌<◌, List, ◌∷◌, [], ◌++◌, ℕ, ap, arith, length, sym, ◌∙◌}
use Rattle.std.proofs.lemmas.List.{take_all}
use Rattle.trace_lines.specs.Forms.{json_text, object_text}
use Rattle.trace_lines.proofs.Arrays.{array_so_far, first-step, later-step, whole}
use Rattle.trace_lines.proofs.objects.json_trace.Goals as goal
use Rattle.trace_lines.proofs.objects.json_trace.Goals.{then-index-gt0+in_ok-push-2, else-index-gt0}

pub loop-index-preserved : goal.loop-index-preserved
loop-index-preserved c =
    let within : c.loop-index.index < length c.args.t.now = omega (arith, c.loop-index-test.true, c.len-index-end.ensures) in
    let object : c.as_slice.result.now ≡ object_text (c.loop-index.index + 1) c.at.result = c.as_slice.ensures ∙ c.put_object.ensures in
    elim c.if-index-gt0.branch [
      | then-index-gt0+in_ok-push-2 w ↦
          let apart = (λ i. (w.text-is i).items) ∙ w.in_ok-push-2.ensures.items ∙ ap (λ (t : List ℕ). t ++ 44 ∷ []) c.loop-index.invariant in
          c.in_ok-extend_from_slice.ensures.items ∙ (λ i. apart i ++ object i) ∙ sym (later-step c.args.t.now c.loop-index.index c.at.result w.if-index-gt0.true within c.at.ensures)
      | else-index-gt0 w ↦
          let first = (λ i. (w.text-is i).items) ∙ c.loop-index.invariant in
          c.in_ok-extend_from_slice.ensures.items ∙ (λ i. first i ++ object i) ∙ sym (first-step c.args.t.now c.loop-index.index c.at.result (omega (arith, w.if-index-gt0.false)) within c.at.ensures)
    ]

pub returns : goal.returns
unfolding json_text
returns c =
    let all = take_all c.loop-index.index c.args.t.now (omega (arith, c.loop-index-test.false, c.len-index-end.ensures)) in
    c.in_ok-extend_from_slice-2.ensures.items ∙ ap (λ (t : List ℕ). t ++ 93 ∷ 10 ∷ []) (c.loop-index.invariant ∙ ap array_so_far all) ∙ whole c.args.t.now
