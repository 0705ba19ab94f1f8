use Rattle.std.proofs.Common.{◌∙◌, List, [], ap, refl, sym}
use Rattle.std.proofs.lemmas.Bool.{cond-true}
use Rattle.dtx_values.specs.Outgoing.{written}
use Rattle.dtx_values.specs.declared.entry.Entry.{Entry}
use Rattle.dtx_values.specs.declared.message.Message.TheVariants.{EnlistSingle}
use Rattle.dtx_model.specs.Coordinated.{is_sole, to_each}
use Rattle.coordinator_core.specs.Kept.{Kept}
use Rattle.coordinator_core.proofs.Loops.{told_each}
use Rattle.coordinator_core.proofs.Single.{given_all, none_given}
use Rattle.coordinator_core.proofs.machine.Core.give.Goals as goal

pub returns-then-is_sole-clause-state : goal.returns-then-is_sole-clause-state
returns-then-is_sole-clause-state c =
    let k = c.args.self.now.state in
    let sole = sym (ap (λ (s : Kept). is_sole s.state.stage) c.self.view_is) ∙ sym c.is_sole.ensures ∙ c.if-is_sole.true in
    c.mark_given.ensures.state ∙ given_all k sole

pub returns-then-is_sole-clause-out : goal.returns-then-is_sole-clause-out
returns-then-is_sole-clause-out c =
    let k = c.args.self.now.state in
    let sole = sym (ap (λ (s : Kept). is_sole s.state.stage) c.self.view_is) ∙ sym c.is_sole.ensures ∙ c.if-is_sole.true in
    c.send_each.ensures.out
    ∙ ap (λ (es : List Entry). written c.args.out.now es) (told_each k EnlistSingle (λ b. refl) k.desks ∙ sym (cond-true (is_sole k.stage) (to_each k EnlistSingle k.desks) [] sole))

pub returns-else-is_sole-clause-state : goal.returns-else-is_sole-clause-state
returns-else-is_sole-clause-state c = none_given c.args.self.now.state (sym (ap (λ (s : Kept). is_sole s.state.stage) c.self.view_is) ∙ sym c.is_sole.ensures ∙ c.if-is_sole.false)
