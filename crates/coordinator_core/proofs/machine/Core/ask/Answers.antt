use Rattle.std.proofs.Common.{◌∙◌, ◌++◌, List, [], ap, refl, sym}
use Rattle.std.proofs.lemmas.Bool.{cond-true}
use Rattle.dtx_values.specs.Outgoing.{Outgoing, written}
use Rattle.dtx_values.specs.declared.entry.Entry.{Entry}
use Rattle.dtx_values.specs.declared.message.Conn.TheVariants.{Voter}
use Rattle.dtx_values.specs.declared.message.Message.TheVariants.{EnlistPrepare, VoterAsk}
use Rattle.dtx_model.specs.Coordinated.{is_active, to, to_each}
use Rattle.coordinator_core.specs.Hearing.{told}
use Rattle.coordinator_core.specs.Kept.{Kept}
use Rattle.coordinator_core.proofs.Loops.{told_each}
use Rattle.coordinator_core.proofs.machine.Core.ask.Goals as goal
use Rattle.dtx_model.proofs.Writing.{written-written}

pub returns-then-is_active : goal.returns-then-is_active
returns-then-is_active c =
    let k = c.args.self.now.state in
    let o = c.args.out.now in
    let voter = to k Voter VoterAsk in
    let each = to_each k EnlistPrepare k.desks in
    let active = sym (ap (λ (s : Kept). is_active s.state.stage) c.self.view_is) ∙ sym c.is_active.ensures ∙ c.if-is_active.true in
    c.send_each.ensures.out ∙ ap (λ (p : Outgoing). written p (told k EnlistPrepare k.desks)) c.send.ensures.out ∙ written-written o voter (told k EnlistPrepare k.desks)
    ∙ ap (λ (es : List Entry). written o (voter ++ es)) (told_each k EnlistPrepare (λ b. refl) k.desks) ∙ ap (λ (es : List Entry). written o es) (sym (cond-true (is_active k.stage) (voter ++ each) [] active))
