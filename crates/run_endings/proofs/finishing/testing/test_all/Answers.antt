use Rattle.std.proofs.Common.{ℕ, ap, subst, sym, ◌∙◌}
use Rattle.tx_cells.specs.Cell.{Cell}
use Rattle.tx_cells.specs.Ties.{TiesWith}
use Rattle.run_endings.proofs.Settling.{each_more}
use Rattle.run_endings.specs.Stops.{EndsFor, IsWrong}
use Rattle.run_endings.proofs.Untied.{all_more, stop_is, wrong_at}
use Rattle.run_endings.proofs.finishing.testing.test_all.Goals as goal
use Rattle.dtx_model.specs.AtLog.{follows}
use Rattle.script_calls.specs.FirstCalls.{are_first, par_line}

pub loop-state-preserved : goal.loop-state-preserved
loop-state-preserved g c =
    let was = c.loop-state.invariant in
    let log = c.args.log.now in
    let par = c.par_line-par.result in
    record {
      tied = all_more (λ (x : Cell). TiesWith x.tx log.log) c.args.states.now c.loop-state.state-index c.state-item.result c.loop-state-test.true c.state-item.is was.tied c.in_ok-is_right.ensures.tied;
      followed = each_more (λ (x : Cell). follows log.past x.tx.world.past) c.args.states.now c.loop-state.state-index c.state-item.result c.loop-state-test.true c.state-item.is was.followed c.in_ok-is_right.ensures.followed;
      first = each_more (λ (x : Cell). are_first par x.tx.world.past) c.args.states.now c.loop-state.state-index c.state-item.result c.loop-state-test.true c.state-item.is was.first c.in_ok-is_right.ensures.first;
    }

pub returns-in_err-is_right-clause-cause : goal.returns-in_err-is_right-clause-cause
returns-in_err-is_right-clause-cause g c =
    stop_is (EndsFor c.args.s.now c.args.states.now c.args.log.now) c.from_residual.result c.in_err-is_right.field-0.0 c.from_residual.ensures.1
    (wrong_at c.args.s.now c.args.states.now c.state-item.result c.args.log.now c.in_err-is_right.field-0.0 (c.loop-state.state-index, c.loop-state-test.true, sym c.state-item.is)
    (subst (λ (n : ℕ). IsWrong n c.state-item.result c.args.log.now c.in_err-is_right.field-0.0) (c.par_line-par.ensures ∙ ap par_line c.lines-2.ensures) c.in_err-is_right.ensures.cause))
