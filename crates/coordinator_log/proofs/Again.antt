-- What was written of a record is read again.
use Rattle.std.proofs.Common.{◌≡◌, ℕ, ◌-◌, ◌+◌, ◌*◌, ◌≤◌, true, leb, get_or, List, [], ◌∷◌, ◌++◌, length, take, drop, Ok, refl, ap, append_assoc, arith}
use Rattle.std.specs.Prelude.{replicate, map}
use Rattle.std.specs.List.{flat_map}
use Rattle.std.proofs.lemmas.Bool.Decides.{nat_tests}
use Rattle.std.proofs.lemmas.List.{length-append, length-map, length-replicate, length-take}
use Rattle.std.proofs.lemmas.Nat.{from_le_bytes-to_le_bytes_2}
use Rattle.dtx_values.specs.declared.number.EnlNo.{EnlNo}
use Rattle.dtx_values.specs.declared.number.RmNo.{RmNo}
use Rattle.dtx_values.specs.declared.record.LogRecord.{LogRecord}
use Rattle.dtx_values.specs.RecoveryInfo.{identifier_in, is_id, pair_bytes, pair_of}
use Rattle.dtx_values.proofs.Infos.{after_pair, id_again, pair_again, pair_long}
use Rattle.dtx_model.specs.Log.{CommitRecord, count_at, from_place, pair_at, pairs_at, record_at, record_of}
use Rattle.slotted.proofs.Heads.{zeros_again}
use Rattle.coordinator_log.specs.Spelling.{front_bytes, record_bytes}

-- an enlistment's bytes are read as this enlistment
pair_at_again : (place : ℕ) (p : RmNo × EnlNo) (z : List ℕ) → pair_at place (pair_bytes (pair_of p) ++ z) ≡ Ok (pair_of p)
unfolding pair_at
pair_at_again place p z = ap (from_place place) (pair_again p z)

-- the bytes of some enlistments are read as these, and what stands behind them is left
pairs_again : (place : ℕ) (ps : List (RmNo × EnlNo)) (z : List ℕ) → pairs_at (length (map pair_of ps)) place (flat_map pair_bytes (map pair_of ps) ++ z) ≡ Ok (map pair_of ps, z)
unfolding pairs_at
pairs_again place [] z = refl
pairs_again place (p ∷ ps) z =
    let b = flat_map pair_bytes (map pair_of ps) in
    let split : (pair_bytes (pair_of p) ++ b) ++ z ≡ pair_bytes (pair_of p) ++ (b ++ z) = append_assoc (pair_bytes (pair_of p)) b z in
    rw (split, pair_at_again place p (b ++ z), after_pair (pair_of p) (b ++ z), pairs_again (place + 20) ps z) refl

-- a record's bytes begin with the format
format_again : (r : CommitRecord) → get_or (record_bytes r) 0 0 ≡ 1
unfolding record_bytes front_bytes
format_again r = refl

-- then the number of enlistments
count_again : (r : CommitRecord) → length r.enlistments ≤ 16 → count_at 1 (record_bytes r) ≡ length r.enlistments
unfolding record_bytes front_bytes count_at
count_again r few = from_le_bytes-to_le_bytes_2 (length r.enlistments) (omega arith)

-- then the identifier
id_at_again : (r : CommitRecord) → is_id r.id ≡ true → identifier_in (drop 3 (record_bytes r)) ≡ Ok r.id
unfolding record_bytes front_bytes
id_at_again r valid = id_again r.id (flat_map pair_bytes r.enlistments ++ replicate (492 - 20 * length r.enlistments) 0) valid

-- and the enlistments and zeros
rest_again : (r : CommitRecord) → drop 19 (record_bytes r) ≡ flat_map pair_bytes r.enlistments ++ replicate (492 - 20 * length r.enlistments) 0
unfolding record_bytes front_bytes
rest_again r = refl

-- at most 16 enlistments of an identifier that is one are read again
again_of : (n : ℕ) (ps : List (RmNo × EnlNo)) → length ps ≤ 16 → is_id n ≡ true
    → record_at (record_bytes (record { id = n; enlistments = map pair_of ps })) ≡ Ok (record { id = n; enlistments = map pair_of ps })
unfolding record_at
again_of n ps few valid =
    let r : CommitRecord = record { id = n; enlistments = map pair_of ps } in
    let k = length (map pair_of ps) in
    let short : k ≤ 16 = omega (arith, length-map ps pair_of) in
    let count : leb k 16 ≡ true = grind (arith, nat_tests) in
    rw (format_again r, count_again r short, count, id_at_again r valid, rest_again r, pairs_again 20 ps (replicate (492 - 20 * k) 0), zeros_again (20 + 20 * k) (492 - 20 * k)) refl

-- a record has at most 16 enlistments
few_pairs : (r : LogRecord) → length (take r.count r.durables) ≤ 16
few_pairs r = let few = r.few in omega (arith, length-take r.count r.durables)

-- a record is read again
pub record_again : (r : LogRecord) → is_id r.id ≡ true → record_at (record_bytes (record_of r)) ≡ Ok (record_of r)
record_again r valid = again_of r.id (take r.count r.durables) (few_pairs r) valid

-- 20 bytes for each enlistment
length-pairs : (ps : List (ℕ × ℕ)) → length (flat_map pair_bytes ps) ≡ 20 * length ps
length-pairs [] = refl
length-pairs (p ∷ ps) = let h = length-pairs ps in omega (arith, pair_long p, length-append (pair_bytes p) (flat_map pair_bytes ps))

-- at most 16 enlistments and the zeros behind them are 511 bytes
length-record : (r : CommitRecord) → length r.enlistments ≤ 16 → length (record_bytes r) ≡ 511
unfolding record_bytes front_bytes
length-record r few =
    omega (arith, length-pairs r.enlistments, length-append (flat_map pair_bytes r.enlistments) (replicate (492 - 20 * length r.enlistments) 0), length-replicate {A = ℕ} (492 - 20 * length r.enlistments) 0)

-- a record's bytes are 511
pub record_long : (r : LogRecord) → length (record_bytes (record_of r)) ≡ 511
record_long r = length-record (record_of r) (omega (arith, length-map (take r.count r.durables) pair_of, few_pairs r))
