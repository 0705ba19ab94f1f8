use Rattle.std.proofs.Common.{◌≡◌, ◌+◌, ◌∷◌, [], ◌++◌, List, Option, ap, arith, length, length-append, refl, subst, ◌∙◌}
use Rattle.std.specs.Prelude.{IfSome}
use Rattle.dtx_values.specs.declared.number.TxNo.{TxNo}
use Rattle.tx_world.specs.State.{TxState}
use Rattle.turn_parts.specs.Runs.{untouched}
use Rattle.replay_runs.specs.RunState.{state_of}
use Rattle.replay_runs.proofs.Numbered.{state_pushed}
use Rattle.replay_runs.proofs.replay.reach.Goals as goal

pub loop-number-preserved : goal.loop-number-preserved
loop-number-preserved c =
    let next = c.unwrap-next.result in
    let ws = c.loop-number.worlds.items in
    let value : next.value ≡ c.loop-number.number + 1 = subst (λ (o : Option TxNo). IfSome o (λ x. x.value ≡ c.loop-number.number + 1)) c.unwrap-next.ensures c.new.ensures.value in
    let long : length ws + 1 ≡ next.value = omega (arith, value, c.loop-number.worlds.ok.0, c.loop-number.invariant.at) in
    let items : c.add.new.worlds.items ≡ ws ++ untouched next ∷ [] = c.in_ok-add.ensures.added in
    let count : length c.add.new.worlds.items ≡ length ws + 1 = ap length items ∙ length-append ws (untouched next ∷ []) in
    record {
      at = omega (arith, count, c.add.new.worlds.ok.0, c.loop-number.worlds.ok.0, c.loop-number.invariant.at);
      same = λ u. ap (λ (xs : List TxState). state_of u xs) items ∙ (state_pushed next ws (untouched next) long refl u ∙ c.loop-number.invariant.same u);
      few = λ start. omega (arith, next.in_range.1, long, count, start);
    }
