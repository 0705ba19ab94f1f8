use Rattle.tx_map.proofs.Undoing.{undone}
use Rattle.tx_map.proofs.laws.rollback_undoes.Goals as goal

pub returns : goal.returns
returns c = undone
