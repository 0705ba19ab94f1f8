use Rattle.recovery_laws.proofs.Settling.{recovered}
use Rattle.recovery_laws.proofs.recovery_settles.Goals as goal

pub returns : goal.returns
returns c = recovered
