-- Numbers are written without a space.
use Rattle.std.proofs.Common.{◌≡◌, ℕ, ◌^◌, ◌<◌, ◌≤◌, true, List, [], ◌∷◌, refl, arith, decimal}
use Rattle.std.specs.Str.Parse.{AllDigits}
use Rattle.std.proofs.lemmas.Bool.Decides.{nat_tests}
use Rattle.std.proofs.lemmas.Fmt.{digits_decimal}
use Rattle.std.proofs.lemmas.Str.Parse.{digit_from_value}
use Rattle.dtx_model.specs.Words.{each}
use Rattle.dtx_model.specs.Grammar.{is_from}
use Rattle.dtx_model.proofs.Bools.{and_both}
use Rattle.dtx_model.proofs.Digits.{own}

-- a number of a range is in it
in_range : (low high n : ℕ) → low ≤ n → n ≤ high → is_from low high n ≡ true
in_range low high n h k = grind (arith, nat_tests)

-- digits are bytes without space
clean_digits : (ds : List ℕ) → AllDigits 10 ds → each (λ b. is_from 33 126 b) ds ≡ true
clean_digits [] d = refl
clean_digits (x ∷ xs) d =
    let r = digit_from_value x d.0 in
    let here : is_from 33 126 x ≡ true = in_range 33 126 x (omega arith) (omega arith) in
    and_both (is_from 33 126 x) (each (λ b. is_from 33 126 b) xs) here (clean_digits xs d.1)

-- a number's text is clean
pub clean_decimal : (n : ℕ) → n < 2 ^ 32 → each (λ b. is_from 33 126 b) (decimal n) ≡ true
clean_decimal n h = clean_digits (decimal n) (digits_decimal own n (omega arith))
