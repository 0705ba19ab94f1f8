use Rattle.std.proofs.Common.{◌≡◌, ◌+◌, true, List, ap, sym, subst, ◌∙◌, take, arith}
use Rattle.std.proofs.Math.Seq.{map-set_same}
use Rattle.dtx_model.specs.Outcome.{is_empty}
use Rattle.dtx_model.specs.Steps.{pending}
use Rattle.dtx_model.specs.Words.{each}
use Rattle.tx_cells.specs.Cell.{Cell}
use Rattle.run_endings.proofs.Settling.{each_more_set}
use Rattle.turn_parts.proofs.Settling.{up_between}
use Rattle.run_endings.proofs.Untied.{untied_at}
use Rattle.run_endings.proofs.finishing.settling.settle_round.Goals as goal

pub loop-i-preserved : goal.loop-i-preserved
loop-i-preserved g c =
    let was = c.loop-i.invariant in
    let x = c.index-states-i.result in
    let y = c.settle.new.state in
    let i = c.loop-i.i in
    let did = c.in_ok-settle.ensures in
    record {
      settled = λ up.
          let mid = up_between c.args.log.now.log.is_up c.loop-i.log.log.is_up c.settle.new.log.log.is_up was.still did.still up in
          let same = c.follow_stop.ensures.same (up ∙ (sym mid ∙ sym c.is_up-was_up.ensures)) in
          subst (λ (cells : List Cell). each (λ (z : Cell). is_empty (pending z.tx.world)) (take (i + 1) cells) ≡ true) (sym same)
          (each_more_set (λ (z : Cell). is_empty (pending z.tx.world)) c.loop-i.states i y (omega arith) (was.settled mid) (ap is_empty did.settled));
      calls = c.in_ok-follow_stop.ensures.calls
          ∙ (map-set_same (λ (z : Cell). z.rows) c.loop-i.states i y x did.rows ∙ was.calls);
      numbers = c.follow_stop.ensures.numbers ∙ (map-set_same (λ (z : Cell). z.tx.transaction) c.loop-i.states i y x c.settle.ensures.transaction ∙ was.numbers);
      log_rows = did.log_rows ∙ was.log_rows;
      still = λ up. was.still (did.still up);
    }

pub returns-in_err-settle-clause-cause : goal.returns-in_err-settle-clause-cause
returns-in_err-settle-clause-cause g c =
    untied_at c.loop-i.states c.loop-i.i c.settle.new.state c.settle.new.log c.in_err-settle.field-0.0 c.from_residual.result (omega arith) c.in_err-settle.ensures.cause c.from_residual.ensures.1

pub returns-in_err-settle-clause-numbers : goal.returns-in_err-settle-clause-numbers
returns-in_err-settle-clause-numbers g c =
    map-set_same (λ (z : Cell). z.tx.transaction) c.loop-i.states c.loop-i.i c.settle.new.state c.index-states-i.result c.settle.ensures.transaction ∙ c.loop-i.invariant.numbers

pub returns-in_err-follow_stop-clause-numbers : goal.returns-in_err-follow_stop-clause-numbers
returns-in_err-follow_stop-clause-numbers g c =
    c.follow_stop.ensures.numbers
    ∙ (map-set_same (λ (z : Cell). z.tx.transaction) c.loop-i.states c.loop-i.i c.settle.new.state c.index-states-i.result c.settle.ensures.transaction ∙ c.loop-i.invariant.numbers)
