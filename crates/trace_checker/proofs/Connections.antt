-- The numbers of connections in tables.
use Rattle.std.proofs.Common.{◌≡◌, ℕ, ◌+◌, ◌*◌, ◌≤◌, false, ◌==◌, refl, arith}
use Rattle.std.proofs.lemmas.Bool.Decides.{nat_tests}
use Rattle.dtx_values.specs.declared.message.Conn.{Conn}
use Rattle.dtx_values.specs.declared.message.Conn.TheVariants.{Begin, Voter, Enl, Again}
use Rattle.dtx_values.specs.Ends.{same_connection}
use Rattle.trace_checker.specs.Connections.{number_of}

unlike : (n m : ℕ) → n + 1 ≤ m → (n == m) ≡ false
unlike n m k = grind (arith, nat_tests)

unlike_back : (n m : ℕ) → m + 1 ≤ n → (n == m) ≡ false
unlike_back n m k = grind (arith, nat_tests)

doubled : (n m : ℕ) → ((2 * n) == (2 * m)) ≡ (n == m)
doubled n m = grind (arith, nat_tests)

odd : (n m : ℕ) → ((2 * n + 1) == (2 * m + 1)) ≡ (n == m)
odd n m = grind (arith, nat_tests)

even_odd : (n m : ℕ) → ((2 * n) == (2 * m + 1)) ≡ false
even_odd n m = grind (arith, nat_tests)

odd_even : (n m : ℕ) → ((2 * n + 1) == (2 * m)) ≡ false
odd_even n m = grind (arith, nat_tests)

-- two connections with one number are one
pub same_number_of : (q c : Conn) → (number_of q == number_of c) ≡ same_connection q c
same_number_of Begin Begin = refl
same_number_of Begin Voter = refl
same_number_of Begin (Enl e) = unlike 0 (2 * e.value) (let k = e.in_range.0 in omega arith)
same_number_of Begin (Again e) = unlike 0 (2 * e.value + 1) (omega arith)
same_number_of Voter Begin = refl
same_number_of Voter Voter = refl
same_number_of Voter (Enl e) = unlike 1 (2 * e.value) (let k = e.in_range.0 in omega arith)
same_number_of Voter (Again e) = unlike 1 (2 * e.value + 1) (let k = e.in_range.0 in omega arith)
same_number_of (Enl e) Begin = unlike_back (2 * e.value) 0 (let k = e.in_range.0 in omega arith)
same_number_of (Enl e) Voter = unlike_back (2 * e.value) 1 (let k = e.in_range.0 in omega arith)
same_number_of (Enl e) (Enl f) = doubled e.value f.value
same_number_of (Enl e) (Again f) = even_odd e.value f.value
same_number_of (Again e) Begin = unlike_back (2 * e.value + 1) 0 (omega arith)
same_number_of (Again e) Voter = unlike_back (2 * e.value + 1) 1 (let k = e.in_range.0 in omega arith)
same_number_of (Again e) (Enl f) = odd_even e.value f.value
same_number_of (Again e) (Again f) = odd e.value f.value
