use Rattle.recovery_laws.proofs.OneByOne.{one_by_one}
use Rattle.recovery_laws.proofs.recovery_one_by_one.Goals as goal

pub returns : goal.returns
returns c = one_by_one
