-- Transactions for good that have the same number are one.
use mathlib.Core.Bool.{Bool-set}
use mathlib.Core.HLevel.{is_prop→PathP}
use Rattle.std.proofs.Common.{nat_lt, true, ℕ, zero, suc, ◌≡◌, ◌≤◌, ◌<◌, ◌+◌, ◌*◌, ◌∙◌, ap, sym, refl, arith}
use Rattle.std.proofs.lemmas.Bool.Decides.{nat_tests}
use Rattle.dtx_values.specs.declared.tx_id.TxId.{TxId}
use Rattle.dtx_values.specs.TxIds.{number_in, number_of}
use Rattle.dtx_values.proofs.SameNumbers.{same_transaction}

-- the number for good, by its epoch and the number within that
pub number_is : (epoch t : ℕ) → number_in epoch t ≡ 65536 * epoch + t
number_is zero t = omega arith
number_is (suc n) t = refl

-- it is made so
pub number_made : (x : TxId) (m n : ℕ) → m ≡ x.epoch → n ≡ x.t.value → 65536 * m + n ≡ number_of x
number_made x m n e f = ap (λ k. 65536 * k + n) e ∙ (ap (λ k. 65536 * x.epoch + k) f ∙ sym (number_is x.epoch x.t.value))

-- one number, one transaction
pub same_id : (x y : TxId) → number_of x ≡ number_of y → x ≡ y
same_id x y e =
    let sums : 65536 * x.epoch + x.t.value ≡ 65536 * y.epoch + y.t.value = sym (number_is x.epoch x.t.value) ∙ (e ∙ number_is y.epoch y.t.value) in
    let low = x.t.in_range.0 in
    let high = x.t.in_range.1 in
    let from = y.t.in_range.0 in
    let to = y.t.in_range.1 in
    let epochs : x.epoch ≡ y.epoch = omega (arith, sums, low, high, from, to) in
    let within : x.t.value ≡ y.t.value = omega (arith, sums, low, high, from, to) in
    let ts : x.t ≡ y.t = same_transaction x.t y.t within in
    λ i. record { epoch = epochs i; t = ts i; in_range = is_prop→PathP (λ j. nat_lt (epochs j) 4294967296 ≡ true) (λ j. Bool-set (nat_lt (epochs j) 4294967296) true) x.in_range y.in_range i }

-- its number for good is from 1, and has 48 bits
pub number_low : (x : TxId) → 1 ≤ number_of x
number_low x = let is = number_is x.epoch x.t.value in let low = x.t.in_range.0 in omega (arith, is, low)

pub number_high : (x : TxId) → number_of x < 281474976710656
number_high x =
    let is = number_is x.epoch x.t.value in
    let high = x.t.in_range.1 in
    let within = x.in_range in
    let less : x.epoch < 4294967296 = grind (arith, nat_tests) in
    omega (arith, is, high, less)
