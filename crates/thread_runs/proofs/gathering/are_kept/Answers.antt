use Rattle.thread_runs.specs.Gathering.{IsCellOf}
use Rattle.thread_runs.proofs.Writing.{all_more, all_taken}
use Rattle.thread_runs.proofs.gathering.are_kept.Goals as goal

pub loop-state-preserved : goal.loop-state-preserved
loop-state-preserved g c =
    all_more (IsCellOf g.N.Run.script g.N.Run.objects g.N.Run.honest) c.args.states.now c.loop-state.state-index c.state-item.result c.loop-state-test.true c.state-item.is c.loop-state.invariant
    (record { caused = c.is_caused.ensures.caused; run = c.is_kept.ensures.run; kept = c.is_kept.ensures.kept; ours = c.is_kept.ensures.ours })

pub returns : goal.returns
returns g c = all_taken (IsCellOf g.N.Run.script g.N.Run.objects g.N.Run.honest) c.args.states.now c.loop-state.state-index c.loop-state-test.false c.loop-state.invariant
