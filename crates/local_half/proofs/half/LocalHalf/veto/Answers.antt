use Rattle.std.proofs.Common.{[], ◌≡◌, ◌∙◌, List, ap}
use Rattle.dtx_values.specs.declared.entry.Entry.{Entry}
use Rattle.dtx_values.specs.declared.words.Outcome.TheVariants.{Aborted}
use Rattle.dtx_values.specs.Outgoing.{Outgoing, written}
use Rattle.dtx_model.specs.Half.{Half, decide, veto, veto_message}
use Rattle.half_parts.specs.Half.{Known, after}
use Rattle.half_parts.proofs.Deciding.{ends_decided, heeds_all-append, message_by}
use Rattle.local_half.proofs.half.LocalHalf.veto.Goals as goal
use Rattle.dtx_model.proofs.Writing.{written-written}

pub returns-clause-state : goal.returns-clause-state
unfolding veto
returns-clause-state c =
    let h = c.args.self.now.half in
    let same : veto_message c.decide.new.self.half.seen ≡ veto_message h.seen = message_by c.decide.new.self.half.seen h.seen (ap (λ (k : Known). k.half.seen.ends) c.decide.ensures.state ∙ ends_decided h Aborted) in
    c.say_no.ensures.state ∙ ap (λ (es : List Entry). after [] c.decide.new.self es) same ∙ ap (λ (k : Known). after [] k (veto_message h.seen)) c.decide.ensures.state
    ∙ ap (λ (g : Half). record { transaction = c.args.self.now.transaction; half = g }) (heeds_all-append [] h (decide h Aborted) (veto_message h.seen))

pub returns-clause-out : goal.returns-clause-out
unfolding veto
returns-clause-out c =
    let h = c.args.self.now.half in
    let same : veto_message c.decide.new.self.half.seen ≡ veto_message h.seen = message_by c.decide.new.self.half.seen h.seen (ap (λ (k : Known). k.half.seen.ends) c.decide.ensures.state ∙ ends_decided h Aborted) in
    c.say_no.ensures.out ∙ ap (λ (es : List Entry). written c.decide.new.out es) same ∙ ap (λ (o : Outgoing). written o (veto_message h.seen)) c.decide.ensures.out
    ∙ written-written c.args.out.now (decide h Aborted) (veto_message h.seen)
