use Rattle.std.proofs.Common.{[], ◌∷◌, ◌≡◌, ◌∙◌, List, ap, refl, sym}
use Rattle.dtx_values.specs.declared.entry.Entry.{Entry}
use Rattle.dtx_values.specs.declared.entry.Entry.TheVariants.{Sealed}
use Rattle.dtx_values.specs.declared.message.Conn.TheVariants.{Begin}
use Rattle.dtx_values.specs.declared.message.Message.{Message}
use Rattle.dtx_values.specs.Outgoing.{Outgoing, written}
use Rattle.dtx_model.specs.Acts.{commit_message, commit_sent}
use Rattle.dtx_model.specs.Half.{heeds_all, to_up}
use Rattle.dtx_model.specs.Observed.{track}
use Rattle.half_parts.specs.Half.{Known, after}
use Rattle.local_half.proofs.half.LocalHalf.seal.Goals as goal
use Rattle.dtx_model.proofs.Writing.{written-written}

pub returns-then-commits-clause-state : goal.returns-then-commits-clause-state
unfolding heeds_all track
returns-then-commits-clause-state c =
    let o = c.args.self.now.half.seen in
    let sent : commit_sent o ≡ to_up o Begin (commit_message o) = rw (sym c.commits_by_seal-commits.ensures ∙ c.if-commits.true) refl in
    c.send_up.ensures.state ∙ ap (λ (m : Message). after [] c.write.new.self (to_up c.write.new.self.half.seen Begin m)) c.commit_message-commit.ensures
    ∙ ap (λ (k : Known). after [] k (to_up k.half.seen Begin (commit_message k.half.seen))) c.write.ensures.state ∙ ap (λ (es : List Entry). after [] c.args.self.now (Sealed ∷ es)) (sym sent)

pub returns-then-commits-clause-out : goal.returns-then-commits-clause-out
unfolding heeds_all track
returns-then-commits-clause-out c =
    let o = c.args.self.now.half.seen in
    let sent : commit_sent o ≡ to_up o Begin (commit_message o) = rw (sym c.commits_by_seal-commits.ensures ∙ c.if-commits.true) refl in
    c.send_up.ensures.out ∙ ap (λ (m : Message). written c.write.new.out (to_up c.write.new.self.half.seen Begin m)) c.commit_message-commit.ensures
    ∙ ap (λ (k : Known). written c.write.new.out (to_up k.half.seen Begin (commit_message k.half.seen))) c.write.ensures.state
    ∙ ap (λ (w : Outgoing). written w (to_up o Begin (commit_message o))) c.write.ensures.out
    ∙ written-written c.args.out.now (Sealed ∷ []) (to_up o Begin (commit_message o))
    ∙ ap (λ (es : List Entry). written c.args.out.now (Sealed ∷ es)) (sym sent)
