use Rattle.std.proofs.Common.{◌∙◌, true, List, ap}
use Rattle.dtx_values.specs.Outgoing.{written}
use Rattle.dtx_values.specs.declared.entry.Entry.{Entry}
use Rattle.dtx_model.specs.Coordinated.{Coordinated, follow_all}
use Rattle.coordinator_core.specs.Kept.{abort_block, aborted_if}
use Rattle.coordinator_core.proofs.Aborting.{refusal_all, refusal_block}
use Rattle.coordinator_core.proofs.machine.Core.refusal_came.Goals as goal

pub returns-clause-kept : goal.returns-clause-kept
returns-clause-kept c =
    let transaction = c.abort_if.ensures.transaction ∙ c.vote.ensures.transaction in
    let state = c.abort_if.ensures.state ∙ ap (λ (s : Coordinated). follow_all (aborted_if true s) (abort_block true s)) c.vote.ensures.state ∙ refusal_all c.args.self.now c.args.e in
    λ i. record { transaction = transaction i; state = state i }

pub returns-clause-out : goal.returns-clause-out
returns-clause-out c =
    c.abort_if.ensures.out ∙ ap (λ (es : List Entry). written c.args.out.now es) (ap (λ (s : Coordinated). abort_block true s) c.vote.ensures.state ∙ refusal_block c.args.self.now c.args.e)
