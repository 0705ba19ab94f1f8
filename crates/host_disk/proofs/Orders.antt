-- What a write's order does to a file.
use Rattle.std.proofs.Common.{◌≡◌, ◌∷◌, [], true, ℕ, List, ap, eqb, length, refl, replicate, sym}
use Rattle.std.proofs.lemmas.Bool.{and_parts, cond_both, eqb-true}
use Rattle.std.specs.List.{list_all}
use Rattle.std.specs.Prelude.{nat_lt}
use Rattle.outside.specs.Disk.{overwritten}
use Rattle.host_disk.specs.declared.request.TheConstants.{BRIEF}
use Rattle.host_disk.specs.Order.{after, are_many_zeros, write_order}
use Rattle.host_disk.specs.Order.Order.{WriteOrder, ZerosOrder}

-- bytes that are all zero are so many zeros
zeros_from_all : (bytes : List ℕ) → list_all (λ b. eqb b 0) bytes ≡ true → bytes ≡ replicate (length bytes) 0
zeros_from_all [] all = refl
zeros_from_all (x ∷ xs) all =
    let parts = and_parts (eqb x 0) (list_all (λ b. eqb b 0) xs) all in
    let first : x ≡ 0 = eqb-true x 0 parts.0 in
    let rest : xs ≡ replicate (length xs) 0 = zeros_from_all xs parts.1 in
    cc

-- once it is done, a file holds the bytes at their place, whether they were asked for as bytes or as zeros
pub after-write_order : (old bytes : List ℕ) (at : ℕ) → after (write_order at bytes) old ≡ overwritten old at bytes
after-write_order old bytes at =
    cond_both (are_many_zeros bytes) (ZerosOrder at (length bytes)) (WriteOrder at bytes) (λ order. after order old ≡ overwritten old at bytes)
    (λ many. ap (λ (l : List ℕ). overwritten old at l) (sym (zeros_from_all bytes (and_parts (nat_lt BRIEF (length bytes)) (list_all (λ b. eqb b 0) bytes) many).1)))
    (λ few. refl)
