use Rattle.std.proofs.Common.{◌∙◌, Bool, List, ap}
use Rattle.dtx_values.specs.Outgoing.{written}
use Rattle.dtx_values.specs.declared.entry.Entry.{Entry}
use Rattle.dtx_model.specs.Coordinated.{follow_all, is_going}
use Rattle.coordinator_core.specs.contracts.machine.Core.{the_view}
use Rattle.coordinator_core.specs.Kept.{Kept, single_sends}
use Rattle.coordinator_core.proofs.Single.{agreed, yes_all, yes_block}
use Rattle.coordinator_core.proofs.machine.Core.yes_came.Goals as goal

pub returns-clause-kept : goal.returns-clause-kept
returns-clause-kept c =
    let inside : Kept = the_view c.self.inside in
    let transaction = c.give.ensures.transaction ∙ ap (λ (s : Kept). s.transaction) c.self.view_is in
    let state = c.give.ensures.state
    ∙ ap (λ (b : Bool). follow_all (agreed b inside.state) (single_sends (agreed b inside.state))) c.is_going.ensures
    ∙ ap (λ (s : Kept). follow_all (agreed (is_going s.state.stage) s.state) (single_sends (agreed (is_going s.state.stage) s.state))) c.self.view_is ∙ yes_all c.args.self.now in
    λ i. record { transaction = transaction i; state = state i }

pub returns-clause-out : goal.returns-clause-out
returns-clause-out c =
    let inside : Kept = the_view c.self.inside in
    c.give.ensures.out
    ∙ ap (λ (es : List Entry). written c.args.out.now es)
    (ap (λ (b : Bool). single_sends (agreed b inside.state)) c.is_going.ensures ∙ ap (λ (s : Kept). single_sends (agreed (is_going s.state.stage) s.state)) c.self.view_is ∙ yes_block c.args.self.now)
