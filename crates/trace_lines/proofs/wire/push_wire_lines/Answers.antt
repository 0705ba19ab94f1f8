use Rattle.std.proofs.Common.{◌≡◌, ◌<◌, ap, arith, length, subst, take, true, ◌∙◌}
use Rattle.dtx_model.specs.Words.{each}
use Rattle.trace_lines.specs.Forms.{wire_text}
use Rattle.trace_lines.specs.OneTrace.{is_typed_at}
use Rattle.trace_lines.proofs.Framed.{wire-after}
use Rattle.trace_lines.proofs.Printing.{each-step}
use Rattle.trace_lines.proofs.wire.push_wire_lines.Goals as goal

pub loop-index-preserved : goal.loop-index-preserved
unfolding wire_text
loop-index-preserved c =
    let within : c.loop-index.index < length c.args.t.now = omega (arith, c.loop-index-test.true, c.requires) in
    record {
      within = omega (arith, c.loop-index-test.true);
      text = λ before e.
          wire-after c.args.t.now c.loop-index.index c.at-x.result within c.at-x.ensures before c.loop-index.text.items c.as_slice.result.now c.clear.new.self _ _ _ (c.loop-index.invariant.text before e) c.clear.ensures
          (c.as_slice.ensures ∙ c.put_words.ensures.text) c.in_ok-extend_from_slice.ensures.items c.in_ok-push_frame.ensures c.in_ok-push.ensures.items;
      typed = λ e. each-step is_typed_at c.args.t.now c.loop-index.index c.at-x.result within c.at-x.ensures (c.loop-index.invariant.typed e) c.put_words.ensures.typed;
    }

pub returns-clause-text : goal.returns-clause-text
returns-clause-text c = λ before e.
    let end : c.loop-index.index ≡ c.args.to = omega (arith, c.loop-index-test.false, c.loop-index.invariant.within) in
    c.loop-index.invariant.text before e ∙ ap (λ n. wire_text (take n c.args.t.now)) end

pub returns-clause-typed : goal.returns-clause-typed
returns-clause-typed c = λ e.
    let end : c.loop-index.index ≡ c.args.to = omega (arith, c.loop-index-test.false, c.loop-index.invariant.within) in
    subst (λ n. each is_typed_at (take n c.args.t.now) ≡ true) end (c.loop-index.invariant.typed e)
