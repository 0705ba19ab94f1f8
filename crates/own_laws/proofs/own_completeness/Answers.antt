use Rattle.own_laws.proofs.Told.{told_own}
use Rattle.own_laws.proofs.own_completeness.Goals as goal

pub returns : goal.returns
returns c = record { told = told_own }
