use Rattle.tx_map.proofs.Folding.{folded}
use Rattle.tx_map.proofs.laws.commits_are_folded.Goals as goal

pub returns : goal.returns
returns c = folded
