use Rattle.dtx_model.specs.Caused.{IsCallOf, IsIn}
use Rattle.dtx_model.proofs.Lifting.{lift}
use Rattle.history_table.proofs.Names.{script_once}
use Rattle.outcome_law.proofs.lifting.Goals as goal

pub returns-clause-lifted : goal.returns-clause-lifted
returns-clause-lifted c = λ s t ks h f r. lift (IsIn ks) (IsCallOf s t) f t h r

pub returns-clause-once : goal.returns-clause-once
returns-clause-once c = script_once
