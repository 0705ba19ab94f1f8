use Rattle.std.proofs.Common.{◌∙◌, Bool, List, ap}
use Rattle.dtx_values.specs.Outgoing.{written}
use Rattle.dtx_values.specs.declared.entry.Entry.{Entry}
use Rattle.dtx_values.specs.declared.message.Message.TheVariants.{BeginInDoubt, VoterInDoubt}
use Rattle.dtx_model.specs.declared.desk.Stage.TheVariants.{Answered}
use Rattle.coordinator_core.specs.Kept.{both_told, staged_if}
use Rattle.coordinator_core.proofs.Single.{in_doubt_all, in_doubt_block}
use Rattle.coordinator_core.proofs.machine.Core.one_in_doubt_came.Goals as goal

pub returns-clause-kept : goal.returns-clause-kept
returns-clause-kept c =
    let state = c.settle.ensures.state ∙ ap (λ (b : Bool). staged_if b Answered c.args.self.now.state) c.decides-is_so.ensures ∙ in_doubt_all c.args.self.now c.args.e in
    λ i. record { transaction = c.settle.ensures.transaction i; state = state i }

pub returns-clause-out : goal.returns-clause-out
returns-clause-out c =
    c.settle.ensures.out
    ∙ ap (λ (es : List Entry). written c.args.out.now es) (ap (λ (b : Bool). both_told b BeginInDoubt VoterInDoubt c.args.self.now.state) c.decides-is_so.ensures ∙ in_doubt_block c.args.self.now c.args.e)
