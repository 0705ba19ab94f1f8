use Rattle.recovery_laws.proofs.Ending.{ended}
use Rattle.recovery_laws.proofs.steps_end.Goals as goal

pub returns : goal.returns
returns c = ended
