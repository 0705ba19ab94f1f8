use Rattle.dtx_model.specs.Caused.{IsCallOf}
use Rattle.dtx_model.proofs.Quiet.{wire_run_of}
use Rattle.history_table.proofs.Names.{script_once}
use Rattle.history_table.proofs.Steady.{free_keeps}
use Rattle.script_histories.proofs.PromotesRuns.{runs_promote}
use Rattle.outcome_law.proofs.crossings.Goals as goal

pub returns-clause-promotes : goal.returns-clause-promotes
returns-clause-promotes c = λ s t h named r d. runs_promote s t h r (free_keeps (IsCallOf s t) t h (script_once s t named) r d)

pub returns-clause-wires : goal.returns-clause-wires
returns-clause-wires c = λ s t h r. wire_run_of (IsCallOf s t) t h r
