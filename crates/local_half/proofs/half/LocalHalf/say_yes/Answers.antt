use Rattle.std.proofs.Common.{[], ◌∷◌, ◌∙◌, ap}
use Rattle.dtx_values.specs.declared.entry.Entry.TheVariants.{LocalYes}
use Rattle.dtx_values.specs.declared.message.Conn.TheVariants.{Voter}
use Rattle.dtx_values.specs.declared.message.Message.TheVariants.{VoterYes}
use Rattle.dtx_values.specs.Outgoing.{Outgoing, written}
use Rattle.dtx_model.specs.Half.{heeds_all, to_up}
use Rattle.dtx_model.specs.Observed.{track}
use Rattle.half_parts.specs.Half.{Known, after}
use Rattle.local_half.proofs.half.LocalHalf.say_yes.Goals as goal
use Rattle.dtx_model.proofs.Writing.{written-written}

pub returns-clause-state : goal.returns-clause-state
unfolding heeds_all track
returns-clause-state c = c.send_up.ensures.state ∙ ap (λ (k : Known). after [] k (to_up k.half.seen Voter VoterYes)) c.write.ensures.state

pub returns-clause-out : goal.returns-clause-out
unfolding heeds_all track
returns-clause-out c =
    c.send_up.ensures.out ∙ ap (λ (k : Known). written c.write.new.out (to_up k.half.seen Voter VoterYes)) c.write.ensures.state
    ∙ ap (λ (o : Outgoing). written o (to_up c.args.self.now.half.seen Voter VoterYes)) c.write.ensures.out
    ∙ written-written c.args.out.now (LocalYes ∷ []) (to_up c.args.self.now.half.seen Voter VoterYes)
