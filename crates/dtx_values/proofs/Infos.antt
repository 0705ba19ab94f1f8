-- Identifiers, pairs and recovery information and their bytes: what is read is what was written, and the other way round.
use Rattle.std.proofs.Common.{◌≡◌, ℕ, zero, suc, ◌+◌, ◌^◌, ◌<◌, ◌≤◌, true, List, [], ◌∷◌, ◌++◌, length, take, drop, get_or, Ok, refl, ap, sym, ◌∙◌, arith, length-drop}
use Rattle.std.proofs.Math.Seq.{take-add}
use Rattle.std.proofs.lemmas.Bool.Decides.{nat_tests}
use Rattle.std.proofs.lemmas.List.{get_or-drop, length-take-le, take-append-drop, take_all}
use Rattle.std.proofs.lemmas.Nat.{from_le_bytes-to_le_bytes_4, le_bytes_4}
use Rattle.std.specs.Int.{w32, w128, to_be_bytes, to_le_bytes}
use mathlib.Core.HLevel.{is_prop→PathP}
use native.Mathlib.Bridge.{le_prop}
use Rattle.dtx_values.specs.declared.message.Info.{Info}
use Rattle.dtx_values.specs.declared.number.EnlNo.{EnlNo}
use Rattle.dtx_values.specs.declared.number.RmNo.{RmNo}
use Rattle.dtx_values.specs.RecoveryInfo.{IsInfo, as_identifier, as_pair, id_bytes, identifier_in, info_bytes, is_from_one, is_id, number_in, pair_bytes, pair_in, pair_of, wide_in}
use Rattle.dtx_values.proofs.Halves.{be_bytes_16, from_be_bytes-to_be_bytes_16}

-- each item is a byte
abbrev pub AreBytes : List ℕ → Type 0
AreBytes xs = (i : ℕ) → get_or xs i 0 < 256

-- the first of some bytes are bytes
pub bytes_take : (n : ℕ) (xs : List ℕ) → AreBytes xs → AreBytes (take n xs)
bytes_take zero xs small i = omega arith
bytes_take (suc n) [] small i = small i
bytes_take (suc n) (x ∷ xs) small zero = small zero
bytes_take (suc n) (x ∷ xs) small (suc i) = bytes_take n xs (λ j. small (suc j)) i

-- so are those after them
pub bytes_drop : (n : ℕ) (xs : List ℕ) → AreBytes xs → AreBytes (drop n xs)
bytes_drop n xs small i = rw (get_or-drop n xs i 0) (small (n + i))

-- the first 16 bytes are those of the number that they are read as
wide_bytes : (b : List ℕ) → 16 ≤ length b → AreBytes b → to_be_bytes w128 (wide_in b) ≡ take 16 b
wide_bytes b long small =
    let rest = drop 8 b in
    let enough : 8 ≤ length rest = omega (arith, length-drop 8 b) in
    rw (take-add 8 8 b) (be_bytes_16 (take 8 b) (take 8 rest) (length-take-le 8 b (omega arith)) (length-take-le 8 rest enough) (bytes_take 8 b small) (bytes_take 8 rest (bytes_drop 8 b small)))

-- so are the first 4
number_bytes : (b : List ℕ) → 4 ≤ length b → AreBytes b → to_le_bytes w32 (number_in b) ≡ take 4 b
number_bytes b long small = le_bytes_4 (take 4 b) (number_in b) (length-take-le 4 b long) (bytes_take 4 b small) refl

-- an identifier that was read has the bytes that it was read from
pub read_id_bytes : (b : List ℕ) (n : ℕ) → 16 ≤ length b → AreBytes b → n ≡ wide_in b → take 16 b ≡ id_bytes n
read_id_bytes b n long small is = sym (ap (to_be_bytes w128) is ∙ wide_bytes b long small)

-- so has a pair
pub read_pair_bytes : (b : List ℕ) (p : RmNo × EnlNo) → 20 ≤ length b → AreBytes b → p.0.value ≡ wide_in b → p.1.value ≡ number_in (drop 16 b) → take 20 b ≡ pair_bytes (pair_of p)
unfolding pair_bytes
read_pair_bytes b p long small rm enl =
    let rest = drop 16 b in
    let first : to_be_bytes w128 p.0.value ≡ take 16 b = ap (to_be_bytes w128) rm ∙ wide_bytes b (omega arith) small in
    let second : to_le_bytes w32 p.1.value ≡ take 4 rest = ap (to_le_bytes w32) enl ∙ number_bytes rest (omega (arith, length-drop 16 b)) (bytes_drop 16 b small) in
    take-add 16 4 b ∙ sym (λ k. first k ++ second k)

-- a number that is an identifier is read as one
as_id : (n : ℕ) → is_id n ≡ true → as_identifier n ≡ Ok n
as_id n valid = grind (arith, nat_tests)

-- an identifier fits 128 bits
id_fits : (n : ℕ) → is_id n ≡ true → n < 2 ^ 128
id_fits n valid = grind (arith, nat_tests)

-- the bytes of an identifier are read as it
pub id_again : (n : ℕ) (z : List ℕ) → is_id n ≡ true → identifier_in (id_bytes n ++ z) ≡ Ok n
unfolding identifier_in
id_again n z valid = ap as_identifier (from_be_bytes-to_be_bytes_16 n (id_fits n valid)) ∙ as_id n valid

-- numbers in their ranges are read as a pair
as_pair_of : (p : RmNo × EnlNo) → as_pair p.0.value p.1.value ≡ Ok (pair_of p)
as_pair_of p =
    let rm = p.0.in_range in
    let enl = p.1.in_range in
    let manager : is_from_one 16 p.0.value ≡ true = grind (arith, nat_tests) in
    let number : is_from_one 9999 p.1.value ≡ true = grind (arith, nat_tests) in
    rw (manager, number) refl

-- the bytes of a pair are read as it
pub pair_again : (p : RmNo × EnlNo) (z : List ℕ) → pair_in (pair_bytes (pair_of p) ++ z) ≡ Ok (pair_of p)
unfolding pair_in pair_bytes
pair_again p z =
    let manager : wide_in (pair_bytes (pair_of p) ++ z) ≡ p.0.value = from_be_bytes-to_be_bytes_16 p.0.value (let rm = p.0.in_range in omega arith) in
    let number : number_in (drop 16 (pair_bytes (pair_of p) ++ z)) ≡ p.1.value = from_le_bytes-to_le_bytes_4 p.1.value (let enl = p.1.in_range in omega arith) in
    (λ k. as_pair (manager k) (number k)) ∙ as_pair_of p

-- 20 bytes are a pair's
pub pair_long : (p : ℕ × ℕ) → length (pair_bytes p) ≡ 20
unfolding pair_bytes
pair_long p = refl

-- and what is after them is left
pub after_pair : (p : ℕ × ℕ) (z : List ℕ) → drop 20 (pair_bytes p ++ z) ≡ z
unfolding pair_bytes
after_pair p z = refl

-- information has 36 bytes
pub info_long : (i : Info) → length (info_bytes i) ≡ 36
unfolding info_bytes pair_bytes
info_long i = refl

-- the identifier of information's bytes is the information's
pub info_id : (b : List ℕ) (i : Info) → IsInfo b i → identifier_in b ≡ Ok i.id
unfolding info_bytes
info_id b i p = ap identifier_in p.bytes ∙ id_again i.id (pair_bytes (pair_of (i.rm, i.enl))) p.valid

-- after it are those of its pair
after_id : (i : Info) → drop 16 (info_bytes i) ≡ pair_bytes (pair_of (i.rm, i.enl)) ++ []
unfolding info_bytes pair_bytes
after_id i = refl

-- so is its pair
pub info_pair : (b : List ℕ) (i : Info) → IsInfo b i → pair_in (drop 16 b) ≡ Ok (pair_of (i.rm, i.enl))
info_pair b i p = ap (λ (xs : List ℕ). pair_in (drop 16 xs)) p.bytes ∙ ap pair_in (after_id i) ∙ pair_again (i.rm, i.enl) []

-- 36 bytes are those of the information whose identifier and pair are read from them
pub read_info : (b : List ℕ) (i : Info) → length b ≡ 36 → is_id i.id ≡ true → take 16 b ≡ id_bytes i.id → take 20 (drop 16 b) ≡ pair_bytes (pair_of (i.rm, i.enl)) → IsInfo b i
unfolding info_bytes
read_info b i long valid id pair =
    let rest : drop 16 b ≡ pair_bytes (pair_of (i.rm, i.enl)) = sym (take_all 20 (drop 16 b) (omega (arith, length-drop 16 b))) ∙ pair in
    record { valid = valid; bytes = sym (take-append-drop 16 b) ∙ (λ k. id k ++ rest k) }

-- two of one identifier and of the same numbers are one
pub same_info : (i j : Info) → i.id ≡ j.id → i.rm.value ≡ j.rm.value → i.enl.value ≡ j.enl.value → i ≡ j
same_info i j id rm enl = λ k. record {
  id = id k;
  rm = record { value = rm k; in_range = is_prop→PathP (λ m. (1 ≤ rm m) × (rm m ≤ 16)) (λ m. hlevel le_prop) i.rm.in_range j.rm.in_range k };
  enl = record { value = enl k; in_range = is_prop→PathP (λ m. (1 ≤ enl m) × (enl m ≤ 9999)) (λ m. hlevel le_prop) i.enl.in_range j.enl.in_range k };
}

-- so information whose identifier and pair are read from the bytes of some is that one
pub read_same : (b : List ℕ) (i j : Info) → IsInfo b i → identifier_in b ≡ Ok j.id → pair_in (drop 16 b) ≡ Ok (pair_of (j.rm, j.enl)) → j ≡ i
read_same b i j p id pair =
    let ids = info_id b i p in
    let pairs = info_pair b i p in
    let same : pair_of (j.rm, j.enl) ≡ pair_of (i.rm, i.enl) = cc (pair, pairs) in
    same_info j i (cc (id, ids)) (ap (λ (q : ℕ × ℕ). q.0) same) (ap (λ (q : ℕ × ℕ). q.1) same)
