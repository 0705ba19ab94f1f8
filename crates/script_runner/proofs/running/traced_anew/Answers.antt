use Rattle.script_runner.proofs.Carried.{got_too, run_by_carried}
use Rattle.script_runner.proofs.Threading.{of_ok}
use Rattle.script_runner.proofs.running.traced_anew.Goals as goal

pub returns-in-Ok-traced-clause-carried : goal.returns-in-Ok-traced-clause-carried
returns-in-Ok-traced-clause-carried g c = run_by_carried c.args.way _ _ _ _ _ _ _ (of_ok c.traced-traced.result.0 c.in-Ok-traced.trace _ c.in-Ok-traced.is c.traced-traced.ensures.run)

pub returns-in-Ok-traced-clause-got_carried : goal.returns-in-Ok-traced-clause-got_carried
returns-in-Ok-traced-clause-got_carried g c = got_too c.in-Ok-traced.trace (run_by_carried c.args.way _ _ _ _ _ _ _ (of_ok c.traced-traced.result.0 c.in-Ok-traced.trace _ c.in-Ok-traced.is c.traced-traced.ensures.run))
