use Rattle.dtx_model.specs.Caused.{IsCallOf}
use Rattle.history_table.proofs.Names.{script_once}
use Rattle.script_histories.proofs.OneOutcome.{all_agree, all_just, all_learned}
use Rattle.history_table.proofs.Steady.{free_keeps}
use Rattle.outcome_law.proofs.one_outcome.Goals as goal

pub returns-clause-just : goal.returns-clause-just
returns-clause-just c = λ s t h named r d. all_just h (free_keeps (IsCallOf s t) t h (script_once s t named) r d)

pub returns-clause-agrees : goal.returns-clause-agrees
returns-clause-agrees c = λ s t h named r d. all_agree h (free_keeps (IsCallOf s t) t h (script_once s t named) r d)

pub returns-clause-learned : goal.returns-clause-learned
returns-clause-learned c = λ s t h named r d. all_learned h (free_keeps (IsCallOf s t) t h (script_once s t named) r d)
