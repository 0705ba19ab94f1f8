-- The text of a listing, piece by piece.
use Rattle.std.specs.Prelude.{count_by, is_some, replicate}
use Rattle.std.proofs.Common.{◌≡◌, refl, ap, ℕ, zero, suc, ◌+◌, List, [], ◌∷◌, ◌++◌, cond, map, Option, Some, None, arith}
use Rattle.std.proofs.lemmas.List.Sums.{sum_by-cons}
use Rattle.std.specs.List.{enumerate_from, flat_map}
use Rattle.std.specs.Option.{option_map}
use Rattle.dtx_values.specs.declared.number.EnlNo.{EnlNo}
use Rattle.dtx_values.specs.declared.number.RmNo.{RmNo}
use Rattle.dtx_values.specs.declared.record.LogRecord.{LogRecord}
use Rattle.dtx_values.specs.RecoveryInfo.{pair_of}
use Rattle.dtx_model.specs.Log.{CommitRecord, record_of}
use Rattle.log_listing.specs.Listing.{pair_text, slot_text}

-- the text of enlistments
abbrev pub pairs_text : List (RmNo × EnlNo) → List ℕ
pairs_text ps = flat_map pair_text (map pair_of ps)

-- the lines of slots, the first of which is slot k
abbrev pub lines_from : ℕ → List (Option LogRecord) → List ℕ
lines_from k ss = flat_map slot_text (enumerate_from k (map (option_map record_of) ss))

-- closed slots behind others add nothing
closed : (k n : ℕ) → lines_from k (replicate n None) ≡ []
closed k zero = refl
closed k (suc n) = closed (k + 1) n

pub with_closed_lines : (k n : ℕ) (ss : List (Option LogRecord)) → lines_from k (ss ++ replicate n None) ≡ lines_from k ss
with_closed_lines k n [] = closed k n
with_closed_lines k n (s ∷ ss) = ap (λ (x : List ℕ). slot_text (k, option_map record_of s) ++ x) (with_closed_lines (k + 1) n ss)

-- nor do they count, and a slot counts in a log's words as in the program's memory
pub with_closed_count : (n : ℕ) (ss : List (Option LogRecord)) → count_by is_some (map (option_map record_of) (ss ++ replicate n None)) ≡ count_by is_some ss
with_closed_count zero [] = refl
with_closed_count (suc n) [] =
    let h = with_closed_count n [] in
    omega (arith, h, sum_by-cons (λ (s : Option CommitRecord). cond (is_some s) 1 0) None (map (option_map record_of) (replicate n None)))
with_closed_count n (s ∷ ss) = one s (with_closed_count n ss)
  where
    one : (s : Option LogRecord) → count_by is_some (map (option_map record_of) (ss ++ replicate n None)) ≡ count_by is_some ss → count_by is_some (map (option_map record_of) (s ∷ (ss ++ replicate n None))) ≡ count_by is_some (s ∷ ss)
    one None h = omega (arith, h, sum_by-cons (λ (s : Option CommitRecord). cond (is_some s) 1 0) None (map (option_map record_of) (ss ++ replicate n None)), sum_by-cons (λ (s : Option LogRecord). cond (is_some s) 1 0) None ss)
    one (Some r) h = omega (arith, h, sum_by-cons (λ (s : Option CommitRecord). cond (is_some s) 1 0) (Some (record_of r)) (map (option_map record_of) (ss ++ replicate n None)), sum_by-cons (λ (s : Option LogRecord). cond (is_some s) 1 0) (Some r) ss)
