use Rattle.trace_checker.specs.Voters.{clones}
use Rattle.trace_checker.specs.Voters.{is_whole}
use Rattle.trace_checker.proofs.Lefts.{settled_is}
use Rattle.trace_checker.proofs.voters.Voters.are_clones_complete.Goals as goal

pub returns : goal.returns
returns c = λ h k. settled_is (λ x. x.0.value) (is_whole h) (clones h) c.args.self.now.clones c.is_none.result c.is_none.ensures.none c.is_none.ensures.some k.clones
