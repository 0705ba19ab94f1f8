use Rattle.std.proofs.Common.{append_assoc, ap, ◌++◌, ◌∙◌}
use Rattle.dtx_model.specs.Entries.{client_told_of}
use Rattle.dtx_model.specs.Words.{latest, past_of}
use Rattle.outcome_reasons.specs.Owed.{owed}
use Rattle.outcome_reasons.specs.Promotions.{promotion}
use Rattle.outcome_reasons.specs.Whys.{outcome_lines, said_of}
use Rattle.outcome_reasons.proofs.lines.said_of.Goals as goal

pub returns : goal.returns
unfolding said_of
returns c = λ are.
    let s = c.args.lines.now in
    let qs = past_of c.args.nested.now in
    let ns = past_of c.args.numbers.now in
    let h = past_of c.args.h.now in
    c.in_ok-add_owed.ensures s are
    ∙ ap (λ v. v ++ owed s h) (c.in_ok-add_outcome.ensures ∙ ap (λ v. v ++ outcome_lines s qs ns h (latest client_told_of h)) (c.in_ok-add_promotion.ensures ∙ ap (λ v. v ++ promotion s ns h) c.new-said.ensures.items))
    ∙ append_assoc (promotion s ns h) (outcome_lines s qs ns h (latest client_told_of h)) (owed s h)
