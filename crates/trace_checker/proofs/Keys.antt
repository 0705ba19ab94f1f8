-- Numbers as keys.
use Rattle.std.proofs.Common.{◌≡◌, ℕ, true, ◌==◌, arith}
use Rattle.std.proofs.lemmas.Bool.Decides.{nat_tests}

pub same_number : (n : ℕ) → (n == n) ≡ true
same_number n = grind (arith, nat_tests)

pub same_is : (n m : ℕ) → (n == m) ≡ true → n ≡ m
same_is n m e = grind (arith, nat_tests)
