use Rattle.fine_texts.proofs.Fronts.{verdict_once}
use Rattle.fine_texts.proofs.one_verdict.Goals as goal

pub returns : goal.returns
returns c = record { one = verdict_once }
