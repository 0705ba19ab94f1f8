use Rattle.dtx_model.specs.Outcome.{volatiles}
use Rattle.trace_checker.specs.Voters.{is_for}
use Rattle.trace_checker.proofs.Lefts.{settled_is}
use Rattle.trace_checker.proofs.voters.Voters.have_volatiles_voted.Goals as goal

pub returns : goal.returns
returns c = λ h k. settled_is (λ x. x.0.value) (is_for h) (volatiles h) c.args.self.now.volatiles c.is_none.result c.is_none.ensures.none c.is_none.ensures.some k.volatiles
