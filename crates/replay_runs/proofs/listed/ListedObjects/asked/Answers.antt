use Rattle.std.proofs.Common.{ap, sym, ◌∙◌}
use Rattle.dtx_model.specs.Caused.{Managers}
use Rattle.replay_runs.proofs.Hearing.{listed_owned}
use Rattle.replay_runs.proofs.listed.ListedObjects.asked.Goals as goal

pub returns-clause-owned : goal.returns-clause-owned
returns-clause-owned g c s o is are = listed_owned s o _ c.args.managers.now c.asked.result is are c.asked.ensures.object

pub returns-clause-made : goal.returns-clause-made
returns-clause-made g c s o is = is ∙ ap Managers (sym c.asked.ensures.same)
