use Rattle.std.proofs.Common.{◌<◌, ap, arith, length, sym, ◌∙◌}
use Rattle.std.proofs.lemmas.List.{take_all}
use Rattle.dtx_model.specs.Words.{each}
use Rattle.trace_lines.specs.OneTrace.{is_frame_typed_at, is_typed_at}
use Rattle.trace_lines.proofs.Printing.{each-step}
use Rattle.trace_lines.proofs.laws.typed_trace.Goals as goal

pub loop-index-preserved : goal.loop-index-preserved
loop-index-preserved c =
    let within : c.loop-index.index < length c.args.t.now = omega (arith, c.loop-index-test.true, c.len-index-end.ensures) in
    record {
      typed = each-step is_typed_at c.args.t.now c.loop-index.index c.at.result within c.at.ensures c.loop-index.invariant.typed c.typed_entry.ensures.typed;
      frame_typed = each-step is_frame_typed_at c.args.t.now c.loop-index.index c.at.result within c.at.ensures c.loop-index.invariant.frame_typed c.typed_entry.ensures.frame_typed;
    }

pub returns-clause-typed : goal.returns-clause-typed
returns-clause-typed c =
    let all = take_all c.loop-index.index c.args.t.now (omega (arith, c.loop-index-test.false, c.len-index-end.ensures)) in
    ap (each is_typed_at) (sym all) ∙ c.loop-index.invariant.typed

pub returns-clause-frame_typed : goal.returns-clause-frame_typed
returns-clause-frame_typed c =
    let all = take_all c.loop-index.index c.args.t.now (omega (arith, c.loop-index-test.false, c.len-index-end.ensures)) in
    ap (each is_frame_typed_at) (sym all) ∙ c.loop-index.invariant.frame_typed
