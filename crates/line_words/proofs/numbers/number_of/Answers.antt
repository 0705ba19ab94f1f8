use Rattle.std.proofs.Common.{◌∙◌, arith, rules, refl, ap, sym, Some}
use Rattle.line_words.proofs.numbers.number_of.Goals as goal
use Rattle.dtx_model.proofs.Digits.{digit_of_number, digits_one_more, value_below, value_more, value_of_read}
use Rattle.line_words.proofs.NumberTexts.{number_from_text, one_number, text_of_read, zero_text}

pub returns-then-is_empty-clause-of : goal.returns-then-is_empty-clause-of
returns-then-is_empty-clause-of c = λ n small e. grind (arith, number_from_text 20 c.args.word.now n (omega arith) (omega arith) (omega arith) e)

pub returns-then-word-gt20-clause-of : goal.returns-then-word-gt20-clause-of
returns-then-word-gt20-clause-of c = λ n small e. let k = number_from_text 20 c.args.word.now n (omega arith) (omega arith) (omega arith) e in absurd (omega arith)

pub overflow_mul-value : goal.overflow_mul-value
overflow_mul-value c =
    let below = value_below c.args.word.now c.loop-b.b-index 20 (omega arith) (omega arith) c.loop-b.invariant.digits in
    omega arith

pub overflow_add-value : goal.overflow_add-value
overflow_add-value c =
    let below = value_below c.args.word.now c.loop-b.b-index 20 (omega arith) (omega arith) c.loop-b.invariant.digits in
    omega arith

pub returns-then-word-eq1-clause-some : goal.returns-then-word-eq1-clause-some
returns-then-word-eq1-clause-some c = zero_text c.args.word.now (omega arith) (omega arith)

pub returns-then-word-eq48-clause-of : goal.returns-then-word-eq48-clause-of
returns-then-word-eq48-clause-of c = λ n small e. let k = number_from_text 20 c.args.word.now n (omega arith) (omega arith) (omega arith) e in absurd (omega arith)

pub returns-then-not-is_ascii_digit-clause-of : goal.returns-then-not-is_ascii_digit-clause-of
returns-then-not-is_ascii_digit-clause-of c =
    λ n small e. let k = digit_of_number c.args.word.now n c.loop-b.b-index (omega arith) (omega arith) e in absurd (omega (arith, c.if-not-is_ascii_digit.ensures.cases))

pub loop-b-preserved : goal.loop-b-preserved
loop-b-preserved c = record {
  digits = digits_one_more c.args.word.now c.loop-b.b-index _ (omega arith) refl (search rules) c.loop-b.invariant.digits;
  value = value_more c.args.word.now c.loop-b.b-index _ c.loop-b.value _ (omega arith) refl (search rules) (omega arith) (omega arith);
}

pub returns-then-value-from-clause-of : goal.returns-then-value-from-clause-of
returns-then-value-from-clause-of c =
    λ n small e. let k = value_of_read c.args.word.now c.loop-b.b-index c.loop-b.value n (omega arith) c.loop-b.invariant.value (omega arith) e in absurd (omega arith)

pub returns-clause-some : goal.returns-clause-some
returns-clause-some c =
    text_of_read c.args.word.now c.loop-b.b-index c.loop-b.value (omega arith) (grind arith) (λ z. omega arith) c.loop-b.invariant.digits (omega arith) (omega arith)

pub returns-clause-of : goal.returns-clause-of
returns-clause-of c =
    λ n small e. ap Some (value_of_read c.args.word.now c.loop-b.b-index c.loop-b.value n (omega arith) c.loop-b.invariant.value (omega arith) e)

pub returns-then-word-eq1-clause-of : goal.returns-then-word-eq1-clause-of
returns-then-word-eq1-clause-of c = λ n small e. ap Some (one_number 0 n (omega arith) small (sym (zero_text c.args.word.now (omega arith) (omega arith)) ∙ e))
