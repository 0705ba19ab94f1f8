use Rattle.std.proofs.Common.{[], ◌∷◌, ap, ◌∙◌}
use Rattle.dtx_values.specs.declared.entry.Entry.TheVariants.{Voted}
use Rattle.dtx_values.specs.Outgoing.{Outgoing, written}
use Rattle.dtx_model.specs.Half.{heeds_all, sees}
use Rattle.dtx_model.specs.Replies.{reply_entries, voted_by}
use Rattle.half_parts.specs.Half.{Known, after}
use Rattle.local_half.proofs.half.LocalHalf.vote.Goals as goal
use Rattle.dtx_model.proofs.Writing.{written-written}

pub returns-clause-state : goal.returns-clause-state
unfolding heeds_all reply_entries
returns-clause-state c = c.after_vote.ensures.state ∙ ap (λ (k : Known). after [] k (voted_by k.half c.args.e c.args.v)) c.write.ensures.state

pub returns-clause-out : goal.returns-clause-out
unfolding heeds_all reply_entries
returns-clause-out c =
    let h = sees c.args.self.now.half (Voted c.args.e c.args.v) in
    c.after_vote.ensures.out ∙ ap (λ (k : Known). written c.write.new.out (voted_by k.half c.args.e c.args.v)) c.write.ensures.state
    ∙ ap (λ (o : Outgoing). written o (voted_by h c.args.e c.args.v)) c.write.ensures.out
    ∙ written-written c.args.out.now (Voted c.args.e c.args.v ∷ []) (voted_by h c.args.e c.args.v)
