use Rattle.std.proofs.Common.{◌≡◌, ◌<◌, ◌++◌, List, ℕ, ap, arith, length, sym, subst, take, ◌∙◌, append_assoc, true}
use Rattle.dtx_model.specs.Words.{each}
use Rattle.trace_lines.specs.OneTrace.{is_typed_at}
use Rattle.dtx_model.specs.TraceText.{trace_text}
use Rattle.trace_lines.proofs.Printing.{each-step, lines-step}
use Rattle.trace_lines.proofs.printer.push_plain_lines.Goals as goal

pub loop-index-preserved : goal.loop-index-preserved
unfolding trace_text
loop-index-preserved c =
    let within : c.loop-index.index < length c.args.t.now = omega (arith, c.loop-index-test.true, c.requires) in
    let step = lines-step c.args.t.now c.loop-index.index c.at.result within c.at.ensures in
    record {
      within = omega (arith, c.loop-index-test.true);
      text = λ before e.
          ap (λ (x : List ℕ). before ++ x) c.in_ok-extend_from_slice.ensures.items ∙ sym (append_assoc before c.loop-index.text.items _)
          ∙ (λ i. c.loop-index.invariant.text before e i ++ (c.as_slice.ensures ∙ c.put_line.ensures.text) i) ∙ sym step;
      typed = λ e. each-step is_typed_at c.args.t.now c.loop-index.index c.at.result within c.at.ensures (c.loop-index.invariant.typed e) c.put_line.ensures.typed;
    }

pub returns-clause-text : goal.returns-clause-text
returns-clause-text c = λ before e.
    let end : c.loop-index.index ≡ c.args.to = omega (arith, c.loop-index-test.false, c.loop-index.invariant.within) in
    c.loop-index.invariant.text before e ∙ ap (λ n. trace_text (take n c.args.t.now)) end

pub returns-clause-typed : goal.returns-clause-typed
returns-clause-typed c = λ e.
    let end : c.loop-index.index ≡ c.args.to = omega (arith, c.loop-index-test.false, c.loop-index.invariant.within) in
    subst (λ n. each is_typed_at (take n c.args.t.now) ≡ true) end (c.loop-index.invariant.typed e)
