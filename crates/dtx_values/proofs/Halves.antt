-- Numbers of 16 bytes, the highest first: their halves, and the way from bytes to a number and back.
use Rattle.std.proofs.Common.{◌≡◌, ℕ, ◌+◌, ◌*◌, ◌/◌, ◌%◌, ◌^◌, ◌<◌, List, [], ◌∷◌, ◌++◌, length, get_or, refl, ap, ◌∙◌, arith}
use Rattle.std.specs.Int.{w64, w128, to_be_bytes, from_be_bytes}
use Rattle.std.proofs.lemmas.Nat.{be_bytes_8, div-mul-add, from_be_bytes-to_be_bytes_8, mod-mul-add}

-- the bytes of a number are those of its upper half in front of those of its lower half
pub to_halves : (n : ℕ) → to_be_bytes w128 n ≡ to_be_bytes w64 (n / 2 ^ 64) ++ to_be_bytes w64 (n % 2 ^ 64)
to_halves n =
    let m = n / 2 ^ 64 in
    let r = n % 2 ^ 64 in
    let h7 : n / 256 ^ 15 % 256 ≡ m / 256 ^ 7 % 256 = omega arith in
    let h6 : n / 256 ^ 14 % 256 ≡ m / 256 ^ 6 % 256 = omega arith in
    let h5 : n / 256 ^ 13 % 256 ≡ m / 256 ^ 5 % 256 = omega arith in
    let h4 : n / 256 ^ 12 % 256 ≡ m / 256 ^ 4 % 256 = omega arith in
    let h3 : n / 256 ^ 11 % 256 ≡ m / 256 ^ 3 % 256 = omega arith in
    let h2 : n / 256 ^ 10 % 256 ≡ m / 256 ^ 2 % 256 = omega arith in
    let h1 : n / 256 ^ 9 % 256 ≡ m / 256 ^ 1 % 256 = omega arith in
    let h0 : n / 256 ^ 8 % 256 ≡ m % 256 = omega arith in
    let l7 : n / 256 ^ 7 % 256 ≡ r / 256 ^ 7 % 256 = omega arith in
    let l6 : n / 256 ^ 6 % 256 ≡ r / 256 ^ 6 % 256 = omega arith in
    let l5 : n / 256 ^ 5 % 256 ≡ r / 256 ^ 5 % 256 = omega arith in
    let l4 : n / 256 ^ 4 % 256 ≡ r / 256 ^ 4 % 256 = omega arith in
    let l3 : n / 256 ^ 3 % 256 ≡ r / 256 ^ 3 % 256 = omega arith in
    let l2 : n / 256 ^ 2 % 256 ≡ r / 256 ^ 2 % 256 = omega arith in
    let l1 : n / 256 ^ 1 % 256 ≡ r / 256 ^ 1 % 256 = omega arith in
    let l0 : n % 256 ≡ r % 256 = omega arith in
    λ i. h7 i ∷ h6 i ∷ h5 i ∷ h4 i ∷ h3 i ∷ h2 i ∷ h1 i ∷ h0 i ∷ l7 i ∷ l6 i ∷ l5 i ∷ l4 i ∷ l3 i ∷ l2 i ∷ l1 i ∷ l0 i ∷ []

-- a number of 16 bytes is its upper half and its lower
pub from_halves : (xs ys : List ℕ) → length xs ≡ 8 → length ys ≡ 8
    → from_be_bytes w128 (xs ++ ys) ≡ from_be_bytes w64 xs * 2 ^ 64 + from_be_bytes w64 ys
from_halves (a ∷ b ∷ c ∷ d ∷ e ∷ f ∷ g ∷ h ∷ []) (p ∷ q ∷ r ∷ s ∷ t ∷ u ∷ v ∷ w ∷ []) l m = omega arith
from_halves _ _ l m = absurd (omega arith)

-- a number of 8 bytes fits 64 bits
pub half_small : (xs : List ℕ) → ((i : ℕ) → get_or xs i 0 < 256) → from_be_bytes w64 xs < 2 ^ 64
half_small xs small = omega (arith, small 0, small 1, small 2, small 3, small 4, small 5, small 6, small 7)

-- the bytes of the number that 16 bytes are read as are these bytes
pub be_bytes_16 : (xs ys : List ℕ) → length xs ≡ 8 → length ys ≡ 8 → ((i : ℕ) → get_or xs i 0 < 256) → ((i : ℕ) → get_or ys i 0 < 256)
    → to_be_bytes w128 (from_be_bytes w128 (xs ++ ys)) ≡ xs ++ ys
be_bytes_16 xs ys l m small below =
    let hi = from_be_bytes w64 xs in
    let lo = from_be_bytes w64 ys in
    let upper = div-mul-add hi (2 ^ 64) lo (half_small ys below) in
    let lower = mod-mul-add hi (2 ^ 64) lo (half_small ys below) in
    let first = ap (to_be_bytes w64) upper ∙ be_bytes_8 xs hi l small refl in
    let second = ap (to_be_bytes w64) lower ∙ be_bytes_8 ys lo m below refl in
    ap (to_be_bytes w128) (from_halves xs ys l m) ∙ to_halves (hi * 2 ^ 64 + lo) ∙ (λ i. first i ++ second i)

-- the number that a number's 16 bytes are read as is this number
pub from_be_bytes-to_be_bytes_16 : (n : ℕ) → n < 2 ^ 128 → from_be_bytes w128 (to_be_bytes w128 n) ≡ n
from_be_bytes-to_be_bytes_16 n fits =
    let hi = n / 2 ^ 64 in
    let lo = n % 2 ^ 64 in
    ap (from_be_bytes w128) (to_halves n) ∙ from_halves (to_be_bytes w64 hi) (to_be_bytes w64 lo) refl refl
    ∙ rw (from_be_bytes-to_be_bytes_8 hi (omega arith), from_be_bytes-to_be_bytes_8 lo (omega arith)) (omega arith)
