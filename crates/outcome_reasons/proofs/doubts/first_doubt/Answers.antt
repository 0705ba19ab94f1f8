use Rattle.std.proofs.Common.{◌≡◌, ◌+◌, ◌∷◌, sym, ◌∙◌, ap, take}
use Rattle.dtx_values.specs.declared.entry.Entry.{Entry}
use Rattle.dtx_model.specs.Outcome.{doubt}
use Rattle.dtx_model.specs.Words.{past_of}
use Rattle.dtx_model.proofs.Prefixes.{past-more}
use Rattle.outcome_reasons.specs.Doubts.{doubt_reason, doubtful}
use Rattle.outcome_reasons.proofs.Firsts.{first-at, first-more, when-false, when-true}
use Rattle.outcome_reasons.proofs.doubts.first_doubt.Goals as goal

pub returns-then-has_doubt : goal.returns-then-has_doubt
returns-then-has_doubt c =
    let h = c.args.h.now in
    let ns = past_of c.args.numbers.now in
    let i = c.loop-i.i in
    let x = c.index-h-i.result in
    let past = past_of (take i h) in
    let more : past_of (take (i + 1) h) ≡ x ∷ past = past-more h i x c.loop-i-test.true ∙ ap (λ (y : Entry). y ∷ past) (sym c.index-h-i.is) in
    sym (first-at (doubtful ns) h i x c.doubt_reason.result c.loop-i-test.true
    (ap (doubtful ns past) (sym c.index-h-i.is) ∙ when-true (doubt (x ∷ past)) (doubt_reason ns past x) c.doubt_reason.result (sym (ap doubt more) ∙ sym c.if-has_doubt.ensures) (sym (c.doubt_reason.ensures past more)))
    c.loop-i.invariant)

pub loop-i-preserved : goal.loop-i-preserved
loop-i-preserved c =
    let h = c.args.h.now in
    let ns = past_of c.args.numbers.now in
    let i = c.loop-i.i in
    let x = c.index-h-i.result in
    let past = past_of (take i h) in
    let more : past_of (take (i + 1) h) ≡ x ∷ past = past-more h i x c.loop-i-test.true ∙ ap (λ (y : Entry). y ∷ past) (sym c.index-h-i.is) in
    first-more (doubtful ns) h i x c.loop-i-test.true (ap (doubtful ns past) (sym c.index-h-i.is) ∙ when-false (doubt (x ∷ past)) (doubt_reason ns past x) (sym (ap doubt more) ∙ sym c.if-has_doubt.ensures)) c.loop-i.invariant
