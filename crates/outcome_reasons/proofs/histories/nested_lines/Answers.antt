use Rattle.std.proofs.Common.{arith, ap, sym, ◌∙◌}
use Rattle.dtx_model.specs.Words.{put}
use Rattle.outcome_reasons.specs.Vetoes.{nested_in}
use Rattle.outcome_reasons.specs.Whys.{nested_lines}
use Rattle.outcome_reasons.proofs.Spread.{longer}
use Rattle.outcome_reasons.proofs.histories.nested_lines.Goals as goal

pub loop-i-preserved : goal.loop-i-preserved
loop-i-preserved c =
    let T = c.args.t.now in
    let i = c.loop-i.i in
    c.in_ok-add_nested.ensures ∙ ap (put (nested_in c.at.result)) c.loop-i.invariant ∙ ap nested_lines (sym (longer T i c.at.result (omega (arith, c.loop-i-test.true, c.len-i-end.ensures)) c.at.ensures))
