use Rattle.recovery_laws.proofs.Finishing.{stepwise}
use Rattle.recovery_laws.proofs.recovery_is_stepwise.Goals as goal

pub returns : goal.returns
returns c = stepwise
