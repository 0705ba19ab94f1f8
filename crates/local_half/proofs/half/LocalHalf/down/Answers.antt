use Rattle.std.proofs.Common.{[], ap, ◌∙◌}
use Rattle.dtx_values.specs.Outgoing.{written}
use Rattle.dtx_model.specs.Arrivals.{ended_by, local_down}
use Rattle.dtx_model.specs.Half.{heeds_all}
use Rattle.half_parts.specs.Half.{Known, after}
use Rattle.local_half.proofs.half.LocalHalf.down.Goals as goal

pub returns-clause-state : goal.returns-clause-state
unfolding heeds_all local_down
returns-clause-state c = c.ended.ensures.state ∙ ap (λ (k : Known). after [] k (ended_by k.half c.args.c)) c.hear_end.ensures

pub returns-clause-out : goal.returns-clause-out
unfolding heeds_all local_down
returns-clause-out c = c.ended.ensures.out ∙ ap (λ (k : Known). written c.args.out.now (ended_by k.half c.args.c)) c.hear_end.ensures
