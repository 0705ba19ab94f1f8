use Rattle.std.proofs.Common.{◌∙◌, List, ap, sym}
use Rattle.std.proofs.lemmas.Bool.{cond-false, cond-true}
use Rattle.dtx_values.specs.declared.message.Conn.TheVariants.{Again}
use Rattle.dtx_values.specs.declared.number.EnlNo.{EnlNo}
use Rattle.dtx_values.specs.Ends.{same_connection}
use Rattle.dtx_model.specs.Words.{has}
use Rattle.dtx_model.specs.Coordinated.{but}
use Rattle.coordinator_core.specs.contracts.machine.Core.{the_view}
use Rattle.coordinator_core.specs.Kept.{Kept}
use Rattle.coordinator_core.proofs.Following.{after_again, with_waits}
use Rattle.coordinator_core.proofs.machine.Core.answer.Goals as goal

pub returns-then-knows-clause-state : goal.returns-then-knows-clause-state
returns-then-knows-clause-state c =
    let k = c.args.self.now.state in
    let e = c.args.e in
    let inside : Kept = the_view c.self.inside in
    ap (λ (ws : List EnlNo). with_waits ws inside.state) c.leave.ensures
    ∙ ap (λ (s : Kept). with_waits (but e.value s.state.waits) s.state) c.self.view_is
    ∙ ap (λ (ws : List EnlNo). with_waits ws k) (sym (cond-true (has (same_connection (Again e)) k.known) (but e.value k.waits) k.waits (sym c.knows.ensures ∙ c.if-knows.true)))
    ∙ sym (after_again (has (same_connection (Again e)) k.known) k e c.args.m)

pub returns-else-knows-clause-state : goal.returns-else-knows-clause-state
returns-else-knows-clause-state c =
    let k = c.args.self.now.state in
    let e = c.args.e in
    ap (λ (ws : List EnlNo). with_waits ws k) (sym (cond-false (has (same_connection (Again e)) k.known) (but e.value k.waits) k.waits (sym c.knows.ensures ∙ c.if-knows.false)))
    ∙ sym (after_again (has (same_connection (Again e)) k.known) k e c.args.m)
