use Rattle.std.proofs.Common.{arith, ℕ, ◌+◌, ap, length, sym, take, ◌∙◌}
use Rattle.dtx_model.specs.Words.{past_of}
use Rattle.outcome_reasons.specs.Histories.{all_histories}
use Rattle.outcome_reasons.proofs.Firsts.{length-before}
use Rattle.outcome_reasons.proofs.Spread.{histories-long, longer}
use Rattle.outcome_reasons.proofs.histories.histories_of.Goals as goal

pub loop-i-preserved : goal.loop-i-preserved
loop-i-preserved c =
    let T = c.args.t.now in
    let i = c.loop-i.i in
    c.in_ok-add_entry.ensures (past_of (take i T)) c.loop-i.invariant (ap (λ (n : ℕ). n + 1) (sym (length-before T i (omega (arith, c.loop-i-test.true, c.len-i-end.ensures)))))
    ∙ ap all_histories (sym (longer T i c.at.result (omega (arith, c.loop-i-test.true, c.len-i-end.ensures)) c.at.ensures))

pub add_entry-requires : goal.add_entry-requires
add_entry-requires c = ap length c.loop-i.invariant ∙ histories-long (past_of (take c.loop-i.i c.args.t.now))
