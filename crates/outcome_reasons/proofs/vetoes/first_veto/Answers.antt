use Rattle.std.proofs.Common.{sym, ◌∙◌, ap, take}
use Rattle.dtx_model.specs.Words.{past_of}
use Rattle.dtx_model.specs.Outcome.{is_first_veto}
use Rattle.outcome_reasons.specs.Moments.{moment}
use Rattle.outcome_reasons.specs.Vetoes.{abort_reason, vetoing}
use Rattle.outcome_reasons.proofs.Firsts.{first-at, first-more, when-false, when-true}
use Rattle.outcome_reasons.proofs.vetoes.first_veto.Goals as goal

pub returns-then-is_first_veto : goal.returns-then-is_first_veto
returns-then-is_first_veto c =
    let h = c.args.h.now in
    let s = c.args.lines.now in
    let qs = past_of c.args.nested.now in
    let ns = past_of c.args.numbers.now in
    let i = c.loop-i.i in
    let x = c.index-h-i.result in
    let past = past_of (take i h) in
    sym (first-at (vetoing s qs ns) h i x (c.abort_reason-reason.result, c.moment.result) c.loop-i-test.true
    (ap (vetoing s qs ns past) (sym c.index-h-i.is) ∙ when-true (is_first_veto past x) (abort_reason s qs ns past x, moment ns past x) (c.abort_reason-reason.result, c.moment.result) (sym c.if-is_first_veto.ensures)
    (λ j. (sym c.abort_reason-reason.ensures j, sym c.moment.ensures j)))
    c.loop-i.invariant)

pub loop-i-preserved : goal.loop-i-preserved
loop-i-preserved c =
    let h = c.args.h.now in
    let s = c.args.lines.now in
    let qs = past_of c.args.nested.now in
    let ns = past_of c.args.numbers.now in
    let i = c.loop-i.i in
    let x = c.index-h-i.result in
    let past = past_of (take i h) in
    first-more (vetoing s qs ns) h i x c.loop-i-test.true
    (ap (vetoing s qs ns past) (sym c.index-h-i.is) ∙ when-false (is_first_veto past x) (abort_reason s qs ns past x, moment ns past x) (sym c.if-is_first_veto.ensures)) c.loop-i.invariant
