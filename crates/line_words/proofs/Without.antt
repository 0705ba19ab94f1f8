-- Numbers and names have no separator.
use Rattle.std.proofs.Common.{◌≡◌, ◌≢◌, ℕ, zero, suc, ◌/◌, ◌%◌, ◌<◌, ◌==◌, if◌then◌else◌, Bool, true, false, List, [], ◌∷◌, refl, arith, decimal}
use Rattle.std.specs.Fmt.{digits, digits_onto, digit_glyph}
use Rattle.std.proofs.lemmas.Bool.Decides.{nat_tests}
use Rattle.dtx_model.proofs.Bools.{or_false}
use Rattle.line_tail.specs.Cut.{IsWithout}

-- a digit is no byte below `0`
glyph_without : (c d : ℕ) → c < 48 → (digit_glyph false d == c) ≡ false
glyph_without c d h = grind (arith, nat_tests)

-- of two texts without c either is so
either_without : (c : ℕ) (b : Bool) (xs ys : List ℕ) → IsWithout c xs → IsWithout c ys → IsWithout c (if b then xs else ys)
either_without c true xs ys h k = h
either_without c false xs ys h k = k

-- digits before a text without c leave it so
digits_without : (c k n : ℕ) (acc : List ℕ) → c < 48 → IsWithout c acc → IsWithout c (digits_onto k 10 false n acc)
digits_without c zero n acc h w = w
digits_without c (suc k) n acc h w =
    let more : IsWithout c (digit_glyph false (n % 10) ∷ acc) = or_false (digit_glyph false (n % 10) == c) _ (glyph_without c (n % 10) h) w in
    either_without c (n / 10 == 0) _ _ more (digits_without c k (n / 10) (digit_glyph false (n % 10) ∷ acc) h more)

-- a number's text holds no byte below `0`
pub without_decimal : (c n : ℕ) → c < 48 → IsWithout c (decimal n)
unfolding digits
without_decimal c n h = digits_without c 64 n [] h refl

-- a name has no space
pub name_without : (letter n : ℕ) → letter ≢ 32 → IsWithout 32 (letter ∷ decimal n)
name_without letter n other =
    let named = without_decimal 32 n (omega arith) in
    grind (arith, nat_tests)
