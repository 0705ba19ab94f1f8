use Rattle.std.proofs.Common.{◌∙◌, List, ap, sym}
use Rattle.dtx_values.specs.declared.message.Conn.{Conn}
use Rattle.dtx_values.specs.declared.number.EnlNo.{EnlNo}
use Rattle.coordinator_core.specs.contracts.machine.Core.{the_view}
use Rattle.coordinator_core.specs.Kept.{Kept, unreached}
use Rattle.coordinator_core.proofs.Following.{after_waiting, with_waits}
use Rattle.coordinator_core.proofs.machine.Core.answer_waiting.Goals as goal

pub returns-clause-state : goal.returns-clause-state
returns-clause-state c =
    let inside : Kept = the_view c.self.inside in
    ap (λ (ws : List EnlNo). with_waits ws inside.state) (c.keep_unreached.ensures ∙ ap (λ (cs : List Conn). unreached cs c.self.inside.waits.items) c.as_slice.ensures.value)
    ∙ ap (λ (s : Kept). with_waits (unreached s.state.known s.state.waits) s.state) c.self.view_is ∙ sym (after_waiting c.args.self.now.state c.args.m)
