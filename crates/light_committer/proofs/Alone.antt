-- Where no owner stands among at most one durable or promotable row, all rows are volatile, and evidence by the seal stands once they voted.
use Rattle.std.proofs.Common.{◌≡◌, ◌≤◌, ◌&&◌, ◌||◌, not, Bool, true, false, List, [], ◌∷◌, length, Option, Some, None, is_some, refl, arith}
use Rattle.std.proofs.lemmas.Bool.Decides.{nat_tests}
use Rattle.dtx_values.specs.declared.words.Vote.{Vote}
use Rattle.dtx_values.specs.declared.words.Vote.TheVariants.{Yes, No, Done}
use Rattle.dtx_values.specs.declared.row.Row.{Row}
use Rattle.dtx_values.specs.Table.{how_many}
use Rattle.dtx_values.proofs.Counts.{how_many-filter, how_many-none}
use Rattle.dtx_model.specs.Words.{has}
use Rattle.dtx_values.specs.Vote.{is_no_vote, voted_well}
use Rattle.dtx_values.specs.Waves.{all_voted}
use Rattle.dtx_values.specs.Owners.{lasting, only, owner_of, is_evident}
use Rattle.dtx_values.specs.Row.{is_lasting, voted_no}
use Rattle.dtx_values.specs.Class.{is_volatile}
use Rattle.dtx_model.proofs.Bools.{and_both, and_left, and_right, or_first, or_second}

-- a list of at most one row of which none is the only one is empty
none_only : (xs : List Row) → length xs ≤ 1 → only xs ≡ None → length xs ≡ 0
none_only [] short none = refl
none_only (x ∷ []) short none = absurd cc
none_only (x ∷ y ∷ ys) short none = absurd (omega arith)

-- where there is no owner, nothing durable or promotable stands
none_lasting : (xs : List Row) → how_many is_lasting xs ≤ 1 → owner_of xs ≡ None → has is_lasting xs ≡ false
unfolding owner_of
none_lasting xs short none =
    let n = how_many-filter is_lasting xs in
    let e = none_only (lasting xs) (omega arith) none in
    grind (arith, nat_tests, how_many-none is_lasting xs)

-- a volatile that voted, and not No, voted well
well : (volatile : Bool) (v : Option Vote) → not volatile ≡ false → (not volatile || is_some v) ≡ true → is_no_vote v ≡ false → (volatile && voted_well v) ≡ true
well true (Some Yes) apart voted agreed = refl
well true (Some Done) apart voted agreed = refl
well true (Some No) apart voted agreed = absurd cc
well true None apart voted agreed = absurd cc
well false v apart voted agreed = absurd cc

-- so evidence stands where each volatile voted, and none No
pub evident_alone : (xs : List Row) → has is_lasting xs ≡ false → all_voted xs ≡ true → has voted_no xs ≡ false → is_evident true xs ≡ true
evident_alone [] apart voted agreed = refl
evident_alone (x ∷ xs) apart voted agreed =
    let v = is_volatile x.class in
    and_both (v && voted_well x.vote) (is_evident true xs)
    (well v x.vote (or_first (not v) (has is_lasting xs) apart) (and_left (not v || is_some x.vote) (all_voted xs) voted) (or_first (voted_no x) (has voted_no xs) agreed))
    (evident_alone xs (or_second (not v) (has is_lasting xs) apart) (and_right (not v || is_some x.vote) (all_voted xs) voted) (or_second (voted_no x) (has voted_no xs) agreed))

-- so it does where there is no owner
pub evident_unowned : (xs : List Row) → how_many is_lasting xs ≤ 1 → owner_of xs ≡ None → all_voted xs ≡ true → has voted_no xs ≡ false → is_evident true xs ≡ true
evident_unowned xs short none voted agreed = evident_alone xs (none_lasting xs short none) voted agreed
