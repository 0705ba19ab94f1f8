use Rattle.std.proofs.Common.{◌≡◌, ◌+◌, ◌<◌, IfSome, List, [], Option, ap, arith, get_or, length, sym, subst, ◌∙◌, ◌++◌}
use Rattle.std.specs.Prelude.{All}
use Rattle.std.specs.List.{flat_map, range_with_len}
use Rattle.std.proofs.lemmas.List.{take_all}
use Rattle.std.proofs.lemmas.List.FromFn.{get_or-range_with_len, length-range_with_len}
use Rattle.dtx_values.specs.declared.number.RmNo.{RmNo}
use Rattle.dtx_values.specs.declared.number.TxNo.{TxNo}
use Rattle.dtx_model.specs.Words.{past_of}
use Rattle.script_calls.specs.Managers.{AreManagers}
use Rattle.outcome_reasons.specs.Claims.{HaveOneEnding, Holds}
use Rattle.outcome_reasons.specs.Histories.{Numbered, all_histories, numbered}
use Rattle.outcome_reasons.specs.Whys.{nested_lines, said_if, whys_of}
use Rattle.outcome_reasons.proofs.Adding.{part-more}
use Rattle.outcome_reasons.proofs.Begun.{all-said}
use Rattle.outcome_reasons.proofs.Endings.{one_ending}
use Rattle.outcome_reasons.proofs.Holding.{all-hold}
use Rattle.outcome_reasons.proofs.Spread.{histories-long, history-at}
use Rattle.outcome_reasons.proofs.lines.why.Goals as goal

pub overflow_cast-i : goal.overflow_cast-i
overflow_cast-i c =
    let size : length c.deref-h-items.result.now ≡ 256 = ap length (c.deref-h-items.ensures.value ∙ c.in_ok-histories.ensures) ∙ histories-long (past_of c.args.trace.now) in
    omega (arith, c.loop-i-test.true, size)

pub overflow_add-i : goal.overflow_add-i
overflow_add-i c =
    let size : length c.deref-h-items.result.now ≡ 256 = ap length (c.deref-h-items.ensures.value ∙ c.in_ok-histories.ensures) ∙ histories-long (past_of c.args.trace.now) in
    omega (arith, c.loop-i-test.true, size)

pub unwrap-t-requires : goal.unwrap-t-requires
unwrap-t-requires c =
    let size : length c.deref-h-items.result.now ≡ 256 = ap length (c.deref-h-items.ensures.value ∙ c.in_ok-histories.ensures) ∙ histories-long (past_of c.args.trace.now) in
    c.new.ensures.in_range.1 (omega arith, omega (arith, c.loop-i-test.true, size))

pub loop-i-preserved : goal.loop-i-preserved
loop-i-preserved c =
    let s = c.args.script.now in
    let T = past_of c.args.trace.now in
    let i = c.loop-i.i in
    let items : c.deref-h-items.result.now ≡ all_histories T = c.deref-h-items.ensures.value ∙ c.in_ok-histories.ensures in
    let size : length c.deref-h-items.result.now ≡ 256 = ap length items ∙ histories-long T in
    let within : i < 256 = omega (arith, c.loop-i-test.true, size) in
    let own : c.h-item.result ≡ numbered T (1 + i) = c.h-item.is ∙ ap (λ (xs : List Numbered). get_or xs i c.h-item.result) items ∙ history-at T i c.h-item.result within in
    let number : c.unwrap-t.result.value ≡ 1 + i = subst (λ (o : Option TxNo). IfSome o (λ x. x.value ≡ i + 1)) c.unwrap-t.ensures c.new.ensures.value ∙ omega arith in
    let nested : past_of c.deref.result.now ≡ nested_lines T = ap past_of c.deref.ensures.value ∙ c.in_ok-nested.ensures in
    let lines : c.lines-lines.result.now ≡ s = c.lines-lines.ensures in
    let are : AreManagers c.lines-lines.result.now c.lines-lines.result.now c.deref-in-loop-i.result.now = subst (λ (ms : List (Option RmNo)). AreManagers c.lines-lines.result.now c.lines-lines.result.now ms) (sym c.deref-in-loop-i.ensures.value) c.in_ok-managers.ensures.managers in
    c.in_ok-add_of.ensures are ∙ (λ j. c.loop-i.invariant j ++ said_if (lines j) (nested j) (number j) (own j))
    ∙ part-more (whys_of s T) [] (range_with_len 1 256) i (1 + i) (subst (λ n. i < n) (sym (length-range_with_len 1 256)) within) (sym (get_or-range_with_len 1 256 i (1 + i) within))

pub returns : goal.returns
returns c =
    let s = c.args.script.now in
    let T = past_of c.args.trace.now in
    let items : c.deref-h-items.result.now ≡ all_histories T = c.deref-h-items.ensures.value ∙ c.in_ok-histories.ensures in
    let size : length c.deref-h-items.result.now ≡ 256 = ap length items ∙ histories-long T in
    let said = c.loop-i.invariant ∙ ap (flat_map (whys_of s T)) (take_all c.loop-i.i (range_with_len 1 256) (omega (arith, c.loop-i-test.false, size, length-range_with_len 1 256))) ∙ all-said s c.args.trace.now in
    record {
      whys = said;
      endings = subst (HaveOneEnding c.args.trace.now) (sym said) (one_ending s c.args.trace.now);
      holds = subst (All (λ x. Holds s c.args.trace.now x.0 x.1)) (sym said) (all-hold s c.args.trace.now);
    }
