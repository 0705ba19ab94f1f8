use Rattle.std.proofs.Common.{◌+◌, refl}
use Rattle.dtx_model.specs.Words.{past_of}
use Rattle.thread_runs.proofs.Writing.{histories_more}
use Rattle.thread_runs.proofs.gathering.write_histories.Goals as goal

pub loop-state-preserved : goal.loop-state-preserved
loop-state-preserved g c =
    histories_more c.args.states.now c.loop-state.state-index (c.loop-state.state-index + 1) c.state-item.result (past_of c.args.trace.now.items) c.loop-state.trace.items c.write_history.new.trace.items c.loop-state-test.true c.state-item.is refl
    c.loop-state.invariant c.in_ok-write_history.ensures
