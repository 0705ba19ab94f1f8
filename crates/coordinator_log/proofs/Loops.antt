-- The loops over the enlistments of a record, read and written.
use Rattle.std.proofs.Common.{◌≡◌, ℕ, suc, ◌-◌, ◌+◌, ◌*◌, ◌≤◌, ◌<◌, List, [], ◌∷◌, ◌++◌, length, take, drop, Result, Ok, Err, refl, sym, ap, ◌∙◌, arith, get_or}
use Rattle.std.proofs.lemmas.List.{append-nil, take_more, map_push, flat_map_more}
use Rattle.std.specs.Prelude.{map}
use Rattle.std.specs.List.{flat_map}
use Rattle.dtx_values.specs.declared.number.EnlNo.{EnlNo}
use Rattle.dtx_values.specs.declared.number.RmNo.{RmNo}
use Rattle.dtx_values.specs.RecoveryInfo.{pair_bytes, pair_of}
use Rattle.dtx_model.specs.Log.{pair_at, pairs_at}
use Rattle.slotted.proofs.Fronts.{regroup, with_front}

-- an enlistment that is read is in the front of the rest
pub goes_on : (front : List (ℕ × ℕ)) (n i : ℕ) (bytes : List ℕ) (p : ℕ × ℕ) (total : Result (List (ℕ × ℕ) × List ℕ) ℕ) → i < n → pair_at (20 + 20 * i) bytes ≡ Ok p
    → with_front front (pairs_at (n - i) (20 + 20 * i) bytes) ≡ total → with_front (front ++ p ∷ []) (pairs_at (n - (i + 1)) (20 + 20 * (i + 1)) (drop 20 bytes)) ≡ total
unfolding pairs_at
goes_on front n i bytes p total lt h so_far =
    let k : n - i ≡ suc (n - (i + 1)) = omega arith in
    let m : 20 + 20 * i + 20 ≡ 20 + 20 * (i + 1) = omega arith in
    let one : with_front front (pairs_at (n - i) (20 + 20 * i) bytes) ≡ with_front (front ++ p ∷ []) (pairs_at (n - (i + 1)) (20 + 20 * (i + 1)) (drop 20 bytes)) =
    rw (k, h, m) (regroup front p (pairs_at (n - (i + 1)) (20 + 20 * (i + 1)) (drop 20 bytes))) in
    sym one ∙ so_far

-- a bad place ends the reading
pub ends : (e : ℕ) (front : List (ℕ × ℕ)) (n i : ℕ) (bytes : List ℕ) (total : Result (List (ℕ × ℕ) × List ℕ) ℕ) → i < n → pair_at (20 + 20 * i) bytes ≡ Err e
    → with_front front (pairs_at (n - i) (20 + 20 * i) bytes) ≡ total → total ≡ Err e
unfolding pairs_at
ends e front n i bytes total lt h so_far =
    let k : n - i ≡ suc (n - (i + 1)) = omega arith in
    let one : with_front front (pairs_at (n - i) (20 + 20 * i) bytes) ≡ Err e = rw (k, h) refl in
    sym so_far ∙ one

-- behind the last enlistment the front is all that was read
pub is_done : (front : List (ℕ × ℕ)) (n i : ℕ) (place : ℕ) (bytes : List ℕ) (total : Result (List (ℕ × ℕ) × List ℕ) ℕ) → n ≤ i
    → with_front front (pairs_at (n - i) place bytes) ≡ total → total ≡ Ok (front, bytes)
unfolding pairs_at
is_done front n i place bytes total le so_far =
    let k : n - i ≡ 0 = omega arith in
    let one : with_front front (pairs_at (n - i) place bytes) ≡ Ok (front, bytes) = rw k (ap (λ (ps : List (ℕ × ℕ)). Ok (ps, bytes)) (append-nil front)) in
    sym so_far ∙ one

-- three parts, and nothing behind them
pub join_three : (p q r a b c : List ℕ) → a ≡ p → b ≡ a ++ q → c ≡ b ++ r → c ≡ (p ++ q ++ r) ++ []
join_three p q r a b c e f g = g ∙ ap (λ (l : List ℕ). l ++ r) (f ∙ ap (λ (l : List ℕ). l ++ q) e) ∙ sym (append-nil (p ++ q ++ r))

-- the bytes of one more enlistment
pub pair_more : (f : List ℕ) (ps : List (RmNo × EnlNo)) (i : ℕ) (d : RmNo × EnlNo) → i < length ps
    → (f ++ flat_map pair_bytes (map pair_of (take i ps))) ++ pair_bytes (pair_of (get_or ps i d)) ≡ f ++ flat_map pair_bytes (map pair_of (take (i + 1) ps))
pair_more f ps i d lt =
    let mapped : map pair_of (take (i + 1) ps) ≡ map pair_of (take i ps) ++ pair_of (get_or ps i d) ∷ [] =
    ap (map pair_of) (take_more ps i d lt) ∙ map_push pair_of (take i ps) (get_or ps i d) in
    flat_map_more pair_bytes f (map pair_of (take i ps)) (pair_of (get_or ps i d)) ∙ ap (λ (l : List (ℕ × ℕ)). f ++ flat_map pair_bytes l) (sym mapped)
