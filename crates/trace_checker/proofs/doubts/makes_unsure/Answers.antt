use Rattle.std.proofs.Common.{◌||◌, ◌∷◌, ap, sym, ◌∙◌}
use Rattle.dtx_values.specs.declared.entry.Entry.{Entry}
use Rattle.dtx_values.specs.declared.entry.Entry.TheVariants.{OwnerAnswered}
use Rattle.dtx_values.specs.declared.words.Outcome.{Outcome}
use Rattle.trace_checker.specs.declared.members.Member.{Member}
use Rattle.trace_checker.specs.Doubts.{has_unsure}
use Rattle.trace_checker.proofs.Doubting.{unsure_answer}
use Rattle.trace_checker.proofs.doubts.makes_unsure.Goals as goal

pub returns-in-InDoubt : goal.returns-in-InDoubt
returns-in-InDoubt c = λ h k.
    ap (λ (x : Entry). has_unsure (x ∷ h)) c.in-OwnerAnswered.is
    ∙ (ap (λ (o : Outcome). has_unsure (OwnerAnswered c.in-OwnerAnswered.e o ∷ h)) c.in-InDoubt.is
    ∙ (unsure_answer h c.in-OwnerAnswered.e ∙ ap (λ b. b || has_unsure h) (sym (ap (λ (m : Member). m.handed) c.of-in-InDoubt.ensures ∙ (k c.in-OwnerAnswered.e.value).handed))))
