use Rattle.std.proofs.Common.{refl}
use Rattle.replay_runs.proofs.run.run_replay.Goals as goal

pub run_of-requires-clause-made : goal.run_of-requires-clause-made
run_of-requires-clause-made g c = refl

pub returns-clause-replay : goal.returns-clause-replay
returns-clause-replay g c = c.run_of.ensures.run
