use Rattle.trace_page.proofs.OnePage.{one}
use Rattle.trace_page.proofs.laws.one_page.Goals as goal

pub returns : goal.returns
returns c = record { one = λ s r S T k. one s r S T k }
