use Rattle.std.proofs.Common.{◌≡◌, ◌+◌, ◌<◌, ℕ, List, refl, ap, sym, ◌∙◌, arith, length, get_or, set, take}
use Rattle.dtx_values.specs.declared.trace.Place.TheVariants.{Transaction}
use Rattle.dtx_model.specs.Traces.{Placed, history}
use Rattle.dtx_model.specs.Words.{past_of}
use Rattle.trace_lines.specs.Summary.{seen_of}
use Rattle.trace_lines.specs.declared.tally.Seen.{Seen}
use Rattle.trace_lines.proofs.Summaries.{none-seen, seen-at, step-noted, step-other}
use Rattle.trace_lines.proofs.tally.seen_in.Goals as goal
use Rattle.trace_lines.proofs.tally.seen_in.Goals.{in-Transaction, in_default}

pub loop-index-init : goal.loop-index-init
loop-index-init c = none-seen _ refl

pub loop-index-preserved : goal.loop-index-preserved
loop-index-preserved c =
    let within : c.loop-index.index < length c.args.t.now = omega (arith, c.loop-index-test.true, c.len-index-end.ensures) in
    let past : List Placed = past_of (take c.loop-index.index c.args.t.now) in
    elim c.match-place.branch [
      | in-Transaction w ↦
          let is : c.at-place.result ≡ (Transaction w.in-Transaction.tx, c.at-place.result.1) = λ i. (w.in-Transaction.is i, c.at-place.result.1) in
          let number : 1 + w.index.result ≡ w.in-Transaction.tx.value = omega (arith, w.index.ensures.place) in
          let there : (d : Seen) → get_or c.loop-index.seen w.index.result d ≡ seen_of (history w.in-Transaction.tx.value past) = λ d.
          ap (λ (l : List Seen). get_or l w.index.result d) c.loop-index.invariant ∙ seen-at (take c.loop-index.index c.args.t.now) w.index.result d w.index.ensures.within ∙ ap (λ (n : ℕ). seen_of (history n past)) number in
          w.seen-is ∙ ap (λ (l : List Seen). set l w.index.result w.note.new.self) c.loop-index.invariant
          ∙ step-noted c.args.t.now c.loop-index.index w.in-Transaction.tx c.at-place.result.1 w.index.result w.note.new.self within
          (sym is ∙ c.at-place.ensures ∙ ap (λ (z : Placed). get_or c.args.t.now c.loop-index.index z) is) w.index.ensures.place w.index.ensures.within
          (w.note.ensures (history w.in-Transaction.tx.value past) (there _))
      | in_default w ↦ w.seen-is ∙ c.loop-index.invariant ∙ step-other c.args.t.now c.loop-index.index c.at-place.result.0 c.at-place.result.1 within c.at-place.ensures w.in_default.not-Transaction
    ]
