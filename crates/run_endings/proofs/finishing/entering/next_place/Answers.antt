use Rattle.std.proofs.Common.{◌≡◌, ◌⊎◌, List, Option, Some, arith, subst}
use Rattle.std.specs.Prelude.{IfNone, IsSome}
use Rattle.std.proofs.lemmas.List.{take_all}
use Rattle.dtx_values.specs.declared.call.Call.{Call}
use Rattle.script_calls.specs.declared.rows.Due.{Due}
use Rattle.tx_cells.specs.Cell.{Cell}
use Rattle.run_endings.specs.Finishing.{left_among}
use Rattle.run_endings.proofs.Left.{best_more}
use Rattle.run_endings.proofs.finishing.entering.next_place.Goals as goal

pub loop-i-preserved : goal.loop-i-preserved
loop-i-preserved g c =
    let did = c.better-best.ensures in
    let next = c.next.ensures.next in
    let i = c.loop-i.i in
    let best = c.loop-i.best in
    let new = c.better-best.result in
    best_more c.args.a c.args.states.now i c.index-states-i.result best new c.loop-i-test.true c.index-states-i.is
    (subst (λ (o : Option (Due Call)). (new ≡ best) ⊎ ((d : Due Call) × (o ≡ Some d) × (new ≡ Some (i, d.line)))) next did.either)
    (subst (λ (o : Option (Due Call)). IsSome o → IsSome new) next did.some) did.kept c.loop-i.invariant

pub returns : goal.returns
returns g c = record {
  there = c.loop-i.invariant.there;
  none =
      let all = take_all c.loop-i.i c.args.states.now (omega (arith, c.loop-i-test.false)) in
      subst (λ (cells : List Cell). IfNone c.loop-i.best (left_among c.args.a cells ≡ 0)) all c.loop-i.invariant.none;
}
