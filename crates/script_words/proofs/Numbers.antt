-- Words that are numbers.
use Rattle.std.proofs.Common.{◌≡◌, ℕ, ◌+◌, ◌-◌, ◌*◌, ◌^◌, ◌<◌, ◌≤◌, true, List, []}
use Rattle.std.proofs.Common.{◌∷◌, refl, ap, sym, ◌∙◌, arith, decimal}
use Rattle.std.specs.Char.{digit_value}
use Rattle.std.specs.Str.Parse.{AllDigits, digits_value_after}
use Rattle.std.proofs.lemmas.Bool.Decides.{nat_tests}
use Rattle.std.proofs.lemmas.Fmt.{digits_decimal, digits_value-decimal}
use Rattle.dtx_model.specs.Grammar.{is_from}
use Rattle.dtx_model.specs.Faults.{value_from, writes}
use Rattle.dtx_model.proofs.Bools.{and_left, and_right}
use Rattle.dtx_model.proofs.Digits.{digit_value-digit, own}
use Rattle.line_tail.proofs.SameBytes.{same_bytes-refl, same_bytes-equal}

-- a number of a range is at least low
pub from_low : (low high n : ℕ) → is_from low high n ≡ true → low ≤ n
from_low low high n h = grind (arith, nat_tests)

-- a number from low to high is at most high
pub to_high : (low high n : ℕ) → is_from low high n ≡ true → n ≤ high
to_high low high n h = grind (arith, nat_tests)

-- what digits write behind those of m, by either word
value_from-digits : (m : ℕ) (ds : List ℕ) → AllDigits 10 ds → value_from m ds ≡ digits_value_after 10 m ds
value_from-digits m [] d = refl
value_from-digits m (x ∷ xs) d =
    let step : m * 10 + (x - 48) ≡ m * 10 + digit_value x = omega (arith, digit_value-digit x d.0) in
    ap (λ k. value_from k xs) step ∙ value_from-digits (m * 10 + digit_value x) xs d.1

-- the value of a number's text
pub value_from-decimal : (n : ℕ) → n < 2 ^ 64 → value_from 0 (decimal n) ≡ n
value_from-decimal n h = value_from-digits 0 (decimal n) (digits_decimal own n h) ∙ digits_value-decimal own n h

-- a number's text in a range writes a number of that range
pub writes-decimal : (low high n : ℕ) → n < 2 ^ 64 → is_from low high n ≡ true → writes low high (decimal n) ≡ true
writes-decimal low high n h r = rw (value_from-decimal n h, same_bytes-refl (decimal n)) r

-- a number in a range
abbrev pub Within : ℕ → ℕ → Type 0
Within low high = (n : ℕ) × (is_from low high n ≡ true)

-- a word that writes a number in the range is the text of one
pub writes_one : (low high : ℕ) (w : List ℕ) → writes low high w ≡ true → (n : Within low high) × (decimal n.0 ≡ w)
writes_one low high w h =
    let e = same_bytes-equal w (decimal (value_from 0 w)) (and_left _ _ h) in
    ((value_from 0 w, and_right _ _ h), sym e)
