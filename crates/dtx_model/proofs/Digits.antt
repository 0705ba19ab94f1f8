-- Words that show a number, read digit by digit.
use Rattle.std.proofs.Common.{◌≡◌, ℕ, ◌+◌, ◌-◌, ◌*◌, ◌^◌, ◌<◌, ◌≤◌, List, length, take, get_or, ap, sym, ◌∙◌, subst, arith, decimal}
use Rattle.std.specs.Char.{digit_value}
use Rattle.std.specs.Int.{IsInRange}
use Rattle.std.specs.Str.Parse.{AllDigits, digits_value}
use Rattle.std.proofs.lemmas.Bool.Decides.{nat_tests}
use Rattle.std.proofs.lemmas.List.{length-take-le}
use Rattle.std.proofs.Math.Seq.{take-length}
use Rattle.std.proofs.lemmas.Fmt.{digits_decimal, digits_value-decimal}
use Rattle.std.proofs.lemmas.Int.Digits.{digits_value_more, digits_more}
use Rattle.std.proofs.lemmas.Str.Parse.{IsNumeralModel, numerals_by_value, tells_digits, digit_at, digit_from_value, digits_value_short}

-- std's own words for digits and their value
pub own : IsNumeralModel (AllDigits 10) (digits_value 10)
own = numerals_by_value (AllDigits 10) tells_digits

-- no byte of a number's text is other than a digit
pub digit_of_number : (w : List ℕ) (n i : ℕ) → n < 2 ^ 64 → i < length w → w ≡ decimal n → IsInRange 48 57 (get_or w i 0)
digit_of_number w n i h k e = digit_at w i (subst (λ (v : List ℕ). AllDigits 10 v) (sym e) (digits_decimal own n (omega arith))) k

-- a digit's value is how far it stands after `0`
pub digit_value-digit : (c : ℕ) → digit_value c < 10 → c ≡ digit_value c + 48
digit_value-digit c h =
    let r = digit_from_value c h in
    grind (arith, nat_tests)

-- one digit more: the value
pub value_more : (w : List ℕ) (i c n m : ℕ) → i < length w → c ≡ get_or w i 0 → digit_value c < 10 → n ≡ digits_value 10 (take i w) → m ≡ n * 10 + (c - 48) → m ≡ digits_value 10 (take (i + 1) w)
value_more w i c n m h e d en em =
    let d : digit_value (get_or w i 0) < 10 = subst (λ (x : ℕ). digit_value x < 10) e d in
    omega (arith, digits_value_more 10 w i h, digit_value-digit (get_or w i 0) d)

-- one digit more: all are digits
pub digits_one_more : (w : List ℕ) (i c : ℕ) → i < length w → c ≡ get_or w i 0 → digit_value c < 10 → AllDigits 10 (take i w) → AllDigits 10 (take (i + 1) w)
digits_one_more w i c h e low d = digits_more 10 w i h d (subst (λ (x : ℕ). digit_value x < 10) e low)

-- up to so many digits are below 10 to the power of that
pub value_below : (w : List ℕ) (i most : ℕ) → i < length w → length w ≤ most → AllDigits 10 (take i w) → digits_value 10 (take i w) < 10 ^ most
value_below w i most k h d = digits_value_short own (take i w) most d (omega (arith, length-take-le i w (omega arith)))

-- the value read is the number whose text the word is
pub value_of_read : (w : List ℕ) (i n m : ℕ) → i ≡ length w → n ≡ digits_value 10 (take i w) → m < 2 ^ 64 → w ≡ decimal m → n ≡ m
value_of_read w i n m k e small t =
    e ∙ ap (λ j. digits_value 10 (take j w)) k ∙ ap (λ v. digits_value 10 v) (take-length w ∙ t) ∙ digits_value-decimal own m (omega arith)
