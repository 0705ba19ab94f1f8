use Rattle.std.proofs.Common.{sym, ◌∙◌}
use Rattle.dtx_model.specs.Words.{past_of}
use Rattle.dtx_model.specs.Outcome.{by_owner, durables}
use Rattle.dtx_model.proofs.Reading.{owner-first}
use Rattle.history_judge.proofs.evidence.is_by_owner.Goals as goal

pub returns-in-Some : goal.returns-in-Some
unfolding by_owner
returns-in-Some c =
    let h = past_of c.args.h.now in
    c.is_owner_committed.ensures ∙ sym (owner-first h (durables h) (c.in-Some.e, c.in-Some.field-0-1) (sym c.newest_durable.ensures ∙ c.in-Some.is))
