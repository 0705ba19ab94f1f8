use Rattle.std.proofs.Common.{◌∙◌, ap, arith, get_or, inr, subst, sym}
use Rattle.std.proofs.Math.Seq.{map-set_same}
use Rattle.tx_cells.specs.Cell.{Cell}
use Rattle.tx_cells.specs.Ties.{IsCause}
use Rattle.run_endings.proofs.Untied.{same_followed, untied_at}
use Rattle.run_endings.proofs.finishing.following.follow_all.Goals as goal

pub loop-i-preserved : goal.loop-i-preserved
loop-i-preserved g c =
    let x = c.index-states-i.result in
    let y = c.follow_log.new.self in
    let was = c.loop-i.invariant in
    let heard = c.in_ok-follow_log.ensures.followed in
    record {
      calls = map-set_same (λ (z : Cell). z.rows) c.loop-i.states c.loop-i.i y x (ap (λ (z : Cell). z.rows) heard) ∙ was.calls;
      numbers = map-set_same (λ (z : Cell). z.tx.transaction) c.loop-i.states c.loop-i.i y x (same_followed (get_or c.loop-i.states c.loop-i.i x) y c.args.log.now.log heard) ∙ was.numbers;
    }

pub returns-in_err-follow_log-clause-numbers : goal.returns-in_err-follow_log-clause-numbers
returns-in_err-follow_log-clause-numbers g c =
    let x = c.index-states-i.result in
    let y = c.follow_log.new.self in
    map-set_same (λ (z : Cell). z.tx.transaction) c.loop-i.states c.loop-i.i y x (ap (λ (z : Cell). z.tx.transaction) c.in_err-follow_log.ensures.cause.1) ∙ c.loop-i.invariant.numbers

pub returns-in_err-follow_log-clause-cause : goal.returns-in_err-follow_log-clause-cause
returns-in_err-follow_log-clause-cause g c =
    let e = c.in_err-follow_log.field-0.0 in
    let why = c.in_err-follow_log.ensures.cause in
    untied_at c.loop-i.states c.loop-i.i c.follow_log.new.self c.args.log.now e c.from_residual.result (omega arith)
    (inr (subst (λ (z : Cell). IsCause z.tx c.args.log.now.log e) (sym why.1) why.0)) c.from_residual.ensures.1
