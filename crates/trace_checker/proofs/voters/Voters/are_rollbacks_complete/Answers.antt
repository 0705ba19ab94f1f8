use Rattle.std.proofs.Common.{not, ap, sym, ◌∙◌}
use Rattle.dtx_model.specs.Outcome.{is_complete, is_rollback}
use Rattle.trace_checker.specs.Voters.{clones, is_whole, rollbacks}
use Rattle.trace_checker.proofs.Lefts.{has_filter, none_fails, settled_is}
use Rattle.trace_checker.proofs.voters.Voters.are_rollbacks_complete.Goals as goal

pub returns : goal.returns
returns c = λ h k. settled_is (λ x. x.0.value) (is_whole h) (rollbacks h) c.args.self.now.rollbacks c.is_none.result c.is_none.ensures.none c.is_none.ensures.some k.rollbacks
    ∙ none_fails (λ x. is_complete h x) (rollbacks h)
    ∙ ap not (sym (has_filter (λ x. is_rollback x.1) (λ x. not (is_complete h x)) (clones h)))
