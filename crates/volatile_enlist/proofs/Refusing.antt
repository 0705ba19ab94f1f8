-- A vote of an enlistment that was asked is refused exactly where the table refuses it.
use Rattle.std.proofs.Common.{◌≡◌, ℕ, Bool, true, false, ◌&&◌, List, [], ◌∷◌, Some, None, refl, inl, inr}
use Rattle.std.proofs.lemmas.Bool.{and_parts, or_cases, or_left, or_right}
use Rattle.std.specs.Bool.{if◌then◌else◌}
use Rattle.std.specs.List.{list_any}
use Rattle.dtx_values.specs.declared.number.EnlNo.{EnlNo}
use Rattle.dtx_values.specs.Row.{has_voted, is_marked, is_of}
use Rattle.dtx_values.specs.declared.row.Row.{Row}
use Rattle.enlist_table.specs.declared.refusal.TableRefusal.{TableRefusal}
use Rattle.enlist_table.specs.declared.refusal.TableRefusal.TheVariants.{AlreadyThere}
use Rattle.dtx_values.specs.Table.{has_row, was_asked}
use Rattle.enlist_table.specs.Refusals.{row_refusal}
use Rattle.volatile_enlist.specs.declared.refusal.VoteRefusal.TheVariants.{AlreadyVoted}
use Rattle.volatile_enlist.specs.Refusals.{vote_refusal}

-- an enlistment that was asked stands
pub asked-stands : (e : ℕ) (xs : List Row) → was_asked e xs ≡ true → has_row e xs ≡ true
asked-stands e [] a = a
asked-stands e (x ∷ xs) a = elim (or_cases (is_of e x && is_marked x) (was_asked e xs) a) [
  | inl q ↦ or_left (is_of e x) (has_row e xs) ((and_parts (is_of e x) (is_marked x) q).0)
  | inr q ↦ or_right (is_of e x) (has_row e xs) (asked-stands e xs q)
]

-- where a test gives a cause, it gives any other in its place
other-cause : {A B : Type 0} (b : Bool) (x z : A) (y : B) → (if b then Some x else None) ≡ Some z → (if b then Some y else None) ≡ Some y
other-cause true x z y k = refl
other-cause false x z y k = absurd cc

-- what the table refuses of an enlistment that was asked is a second vote
pub second-vote : (e : EnlNo) (xs : List Row) (r : TableRefusal) → was_asked e.value xs ≡ true → row_refusal has_voted e xs ≡ Some r
    → vote_refusal e xs ≡ Some (AlreadyVoted e)
second-vote e xs r a k =
    let there = list_any (λ x. is_of e.value x && has_voted x) xs in
    rw a (other-cause there (AlreadyThere e) r (AlreadyVoted e) (rw (asked-stands e.value xs a) at k))
