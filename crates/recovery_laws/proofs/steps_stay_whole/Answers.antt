use Rattle.recovery_laws.proofs.Stepping.{steps_whole}
use Rattle.recovery_laws.proofs.steps_stay_whole.Goals as goal

pub returns : goal.returns
returns c = steps_whole
