use Rattle.std.proofs.Common.{◌≡◌, ℕ, [], ap, arith, replicate, refl, ◌∙◌}
use Rattle.outcome_reasons.specs.Histories.{Numbered}
use Rattle.outcome_reasons.proofs.Spread.{none-yet}
use Rattle.outcome_reasons.proofs.histories.no_histories.Goals as goal

pub returns : goal.returns
returns c =
    let empty : Numbered = record { entries = []; numbers = [] } in
    let all : c.loop.counter ≡ 256 = omega (arith, c.loop-test.false, c.loop.auto.counter-end) in
    c.loop.invariant ∙ ap (λ (n : ℕ). replicate n empty) all ∙ none-yet empty refl
