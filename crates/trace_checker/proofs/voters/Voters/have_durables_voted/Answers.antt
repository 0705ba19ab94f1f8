use Rattle.dtx_model.specs.Outcome.{durables}
use Rattle.trace_checker.specs.Voters.{is_for}
use Rattle.trace_checker.proofs.Lefts.{settled_is}
use Rattle.trace_checker.proofs.voters.Voters.have_durables_voted.Goals as goal

pub returns : goal.returns
returns c = λ h k. settled_is (λ x. x.0.value) (is_for h) (durables h) c.args.self.now.durables c.is_none.result c.is_none.ensures.none c.is_none.ensures.some k.durables
