use Rattle.std.proofs.Common.{◌∙◌, Bool, true, List, ap}
use Rattle.dtx_values.specs.Outgoing.{written}
use Rattle.dtx_values.specs.declared.entry.Entry.{Entry}
use Rattle.dtx_model.specs.Coordinated.{follow_all, is_going}
use Rattle.coordinator_core.specs.contracts.machine.Core.{the_view}
use Rattle.coordinator_core.specs.Kept.{Kept, abort_block, aborted_if}
use Rattle.coordinator_core.proofs.Aborting.{no_all, no_block, refused}
use Rattle.coordinator_core.proofs.machine.Core.no_came.Goals as goal

pub returns-clause-kept : goal.returns-clause-kept
returns-clause-kept c =
    let inside : Kept = the_view c.self.inside in
    let transaction = c.abort_if.ensures.transaction ∙ ap (λ (s : Kept). s.transaction) c.self.view_is in
    let state = c.abort_if.ensures.state
    ∙ ap (λ (b : Bool). follow_all (aborted_if true (refused b inside.state)) (abort_block true (refused b inside.state))) c.is_going.ensures
    ∙ ap (λ (s : Kept). follow_all (aborted_if true (refused (is_going s.state.stage) s.state)) (abort_block true (refused (is_going s.state.stage) s.state))) c.self.view_is ∙ no_all c.args.self.now in
    λ i. record { transaction = transaction i; state = state i }

pub returns-clause-out : goal.returns-clause-out
returns-clause-out c =
    let inside : Kept = the_view c.self.inside in
    c.abort_if.ensures.out
    ∙ ap (λ (es : List Entry). written c.args.out.now es)
    (ap (λ (b : Bool). abort_block true (refused b inside.state)) c.is_going.ensures ∙ ap (λ (s : Kept). abort_block true (refused (is_going s.state.stage) s.state)) c.self.view_is ∙ no_block c.args.self.now)
