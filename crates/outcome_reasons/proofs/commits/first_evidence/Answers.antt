use Rattle.std.proofs.Common.{◌≡◌, ◌+◌, ◌∷◌, sym, ◌∙◌, ap, get_or, take}
use Rattle.dtx_values.specs.declared.entry.Entry.TheVariants.{Sealed}
use Rattle.dtx_model.specs.Outcome.{evidence}
use Rattle.dtx_model.specs.Words.{past_of}
use Rattle.dtx_model.proofs.Prefixes.{past-more}
use Rattle.outcome_reasons.specs.Commits.{commit_reason, evident}
use Rattle.outcome_reasons.proofs.Evident.{none_evident}
use Rattle.outcome_reasons.proofs.Firsts.{first-at, first-more, when-false, when-true}
use Rattle.outcome_reasons.proofs.commits.first_evidence.Goals as goal

pub loop-i-init : goal.loop-i-init
loop-i-init c = none_evident (past_of (take c.first_mark-i.result c.args.h.now)) c.first_mark-i.ensures.unmarked

pub returns-then-has_evidence : goal.returns-then-has_evidence
returns-then-has_evidence c =
    let h = c.args.h.now in
    let i = c.loop-i.i in
    let past = past_of (take i h) in
    let more : past_of (take (i + 1) h) ≡ get_or h i Sealed ∷ past = past-more h i Sealed c.loop-i-test.true in
    sym (first-at evident h i Sealed c.commit_reason.result c.loop-i-test.true
    (when-true (evidence (get_or h i Sealed ∷ past)) (commit_reason (get_or h i Sealed ∷ past)) c.commit_reason.result (sym (ap evidence more) ∙ sym c.if-has_evidence.ensures) (sym (ap commit_reason more) ∙ sym c.commit_reason.ensures))
    c.loop-i.invariant)

pub loop-i-preserved : goal.loop-i-preserved
loop-i-preserved c =
    let h = c.args.h.now in
    let i = c.loop-i.i in
    let past = past_of (take i h) in
    let more : past_of (take (i + 1) h) ≡ get_or h i Sealed ∷ past = past-more h i Sealed c.loop-i-test.true in
    first-more evident h i Sealed c.loop-i-test.true (when-false (evidence (get_or h i Sealed ∷ past)) (commit_reason (get_or h i Sealed ∷ past)) (sym (ap evidence more) ∙ sym c.if-has_evidence.ensures)) c.loop-i.invariant
