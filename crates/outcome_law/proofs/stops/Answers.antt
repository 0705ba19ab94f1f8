use Rattle.dtx_model.specs.Caused.{IsCallOf}
use Rattle.history_table.proofs.Names.{script_once}
use Rattle.history_table.proofs.Steady.{free_keeps}
use Rattle.outcome_law.proofs.Withheld.{all_silent, never_evident}
use Rattle.settled_histories.proofs.UnstoppedTies.{unrestarted_tied}
use Rattle.outcome_law.proofs.stops.Goals as goal

pub returns-clause-withheld : goal.returns-clause-withheld
returns-clause-withheld c = λ s t h named r d. all_silent h (free_keeps (IsCallOf s t) t h (script_once s t named) r d)

pub returns-clause-never : goal.returns-clause-never
returns-clause-never c = λ s t h named r d. never_evident h (free_keeps (IsCallOf s t) t h (script_once s t named) r d)

pub returns-clause-unrestarted : goal.returns-clause-unrestarted
returns-clause-unrestarted c = unrestarted_tied
