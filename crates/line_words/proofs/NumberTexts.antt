-- Words that are numbers.
use Rattle.std.proofs.Common.{◌≡◌, ◌≢◌, ℕ, zero, suc, ◌^◌, ◌<◌, ◌≤◌, List, [], ◌∷◌, length, take, get_or, ap, sym, ◌∙◌, subst, arith, decimal}
use Rattle.std.specs.Str.Parse.{AllDigits, digits_value}
use Rattle.std.proofs.Math.Seq.{take-length}
use Rattle.std.proofs.lemmas.Fmt.{decimal_nonempty, decimal_digit, length-decimal-le, first_decimal, digits_decimal, digits_value-decimal, decimal-digits_value}
use Rattle.dtx_model.proofs.Digits.{own}

-- what the text of a number of at most so many digits shows
pub record IsNumber (most : ℕ) (w : List ℕ) (n : ℕ) : Type 0 where
  pub digits : AllDigits 10 w
  pub value : digits_value 10 w ≡ n
  pub nonempty : 0 < length w
  pub short : length w ≤ most
  pub first : get_or w 0 0 ≡ 48 → length w ≡ 1

-- only the text of 0 begins with `0`
decimal_first : (n : ℕ) → n < 2 ^ 64 → get_or (decimal n) 0 0 ≡ 48 → length (decimal n) ≡ 1
decimal_first zero h e = ap length (decimal_digit 0 (omega arith))
decimal_first (suc n) h e = absurd (omega (arith, first_decimal (suc n) (omega arith) h))

-- the text of a number shows that number
pub decimal_number : (most n : ℕ) → 0 < most → n < 10 ^ most → n < 2 ^ 64 → IsNumber most (decimal n) n
decimal_number most n k m h = record {
  digits = digits_decimal own n h;
  value = digits_value-decimal own n h;
  nonempty = decimal_nonempty n h;
  short = length-decimal-le most n k m h;
  first = decimal_first n h;
}

-- a word that is a number's text shows that number
pub number_from_text : (most : ℕ) (w : List ℕ) (n : ℕ) → 0 < most → n < 10 ^ most → n < 2 ^ 64 → w ≡ decimal n → IsNumber most w n
number_from_text most w n k m h e = subst (λ (v : List ℕ). IsNumber most v n) (sym e) (decimal_number most n k m h)

-- digits without leading zeros are the text of their value
text_of_number : (w : List ℕ) (n : ℕ) → AllDigits 10 w → 0 < length w → (get_or w 0 0 ≡ 48 → length w ≡ 1) → digits_value 10 w ≡ n → n < 2 ^ 64 → w ≡ decimal n
text_of_number w n d k z e h = sym (decimal-digits_value own w d k z (omega arith)) ∙ ap decimal e

-- `0` alone is the text of 0
pub zero_text : (w : List ℕ) → length w ≡ 1 → get_or w 0 0 ≡ 48 → w ≡ decimal 0
zero_text [] n e = absurd (omega arith)
zero_text (c ∷ []) n e = ap (λ x. x ∷ []) e ∙ sym (decimal_digit 0 (omega arith))
zero_text (c ∷ d ∷ w) n e = absurd (omega arith)

-- digits, all of them read, are the text of what was read
pub text_of_read : (w : List ℕ) (i n : ℕ) → i ≡ length w → 0 < length w → get_or w 0 0 ≢ 48 → AllDigits 10 (take i w) → n ≡ digits_value 10 (take i w) → n < 2 ^ 64 → w ≡ decimal n
text_of_read w i n k nonempty first d e small =
    let whole : take i w ≡ w = ap (λ j. take j w) k ∙ take-length w in
    let value : digits_value 10 w ≡ n = ap (λ v. digits_value 10 v) (sym whole) ∙ sym e in
    text_of_number w n (subst (λ (v : List ℕ). AllDigits 10 v) whole d) nonempty (λ z. absurd (first z)) value small

-- numbers with one text are one number
pub one_number : (n m : ℕ) → n < 2 ^ 64 → m < 2 ^ 64 → decimal n ≡ decimal m → n ≡ m
one_number n m h k e = sym (digits_value-decimal own n h) ∙ ap (λ w. digits_value 10 w) e ∙ digits_value-decimal own m k
