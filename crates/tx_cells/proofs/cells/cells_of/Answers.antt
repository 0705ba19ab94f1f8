use Rattle.std.proofs.Common.{◌≡◌, ℕ, ◌+◌, ap, arith, rules, sym, ◌∙◌}
use Rattle.std.proofs.lemmas.List.{length_push}
use Rattle.dtx_model.specs.Grammar.{OfTransaction, is_made}
use Rattle.tx_cells.specs.Board.{Named}
use Rattle.tx_cells.proofs.Numbers.{made_more, made_same}
use Rattle.tx_cells.proofs.cells.cells_of.Goals as goal

pub loop-rows-preserved-in_ok-push : goal.loop-rows-preserved-in_ok-push
loop-rows-preserved-in_ok-push g c =
    let at : c.unwrap-t.result.value ≡ c.loop-rows.n + 1 = search rules in
    let read = c.of-made.ensures c.unwrap-t.result in
    record {
      counted = omega (arith, length_push c.loop-rows.yielded c.in-Some.rows, c.loop-rows.invariant.counted);
      made = made_more (λ (x : Named). x.transaction.value) (λ (n : ℕ). is_made c.args.s.now (OfTransaction n)) c.loop-rows.n c.unwrap-t.result.value c.loop-rows.cells.items c.push.new.self.items c.in_ok-new.field-0
          (omega (arith, at)) c.in_ok-push.ensures.items (ap (λ t. t.value) c.in_ok-new.ensures) (sym read ∙ (sym c.has.ensures ∙ c.if-has.true)) c.loop-rows.invariant.made;
    }

pub loop-rows-preserved : goal.loop-rows-preserved
loop-rows-preserved g c =
    let at : c.unwrap-t.result.value ≡ c.loop-rows.n + 1 = search rules in
    let read = c.of-made.ensures c.unwrap-t.result in
    record {
      counted = omega (arith, length_push c.loop-rows.yielded c.in-Some.rows, c.loop-rows.invariant.counted);
      made = made_same (λ (x : Named). x.transaction.value) (λ (n : ℕ). is_made c.args.s.now (OfTransaction n)) c.loop-rows.n c.unwrap-t.result.value c.loop-rows.cells.items
          (omega (arith, at)) (sym read ∙ (sym c.has.ensures ∙ c.if-has.false)) c.loop-rows.invariant.made;
    }
