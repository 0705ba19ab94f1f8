-- One bit of a set.
use Rattle.std.proofs.Common.{◌≡◌, ◌∙◌, ℕ, zero, suc, ◌*◌, ◌^◌, ◌==◌, ◌<◌, ap, arith}
use Rattle.std.proofs.lemmas.Bool.Decides.{nat_tests}
use Rattle.std.proofs.lemmas.Nat.{pow_pos}
use Rattle.std.proofs.lemmas.Nat.Bits.{and_pow, bit_at-lt}
use Rattle.std.specs.Int.{bit_at}
use Rattle.std.specs.Int.RustNames.{bit_and}

whole : (b p : ℕ) → b < 2 → 0 < p → (b * p == p) ≡ (b == 1)
whole zero p small some = grind (arith, nat_tests)
whole (suc zero) p small some = grind (arith, nat_tests)
whole (suc (suc b)) p small some = absurd (omega arith)

-- a set has the whole of a power of two exactly where that bit is 1
pub has-bit : (n k : ℕ) → (bit_and n (2 ^ k) == 2 ^ k) ≡ (bit_at n k == 1)
has-bit n k = ap (λ x. x == 2 ^ k) (and_pow n k) ∙ whole (bit_at n k) (2 ^ k) (bit_at-lt n k) (pow_pos k)
