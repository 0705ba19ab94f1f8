-- Where the steps of recovery left nothing unmarked, the transaction is ended.
use Rattle.std.proofs.Common.{◌≡◌, ℕ, Bool, true, false, not, ◌&&◌, ◌||◌, ◌==◌, List, [], ◌∷◌, Option, Some, refl, ap, sym, ◌∙◌}
use Rattle.std.proofs.lemmas.Bool.{and_parts, or_from, or_parts}
use Rattle.dtx_model.specs.Log.{CommitRecord, first_of}
use Rattle.dtx_model.specs.Promotes.{identifier_of}
use Rattle.dtx_model.specs.Words.{each, has}
use Rattle.recovery_laws.proofs.Changing.{each_same}
use Rattle.recovery_laws.proofs.Holdings.{is_marked, is_unmarked}
use Rattle.recovery_laws.specs.Steps.{IsEndedBySteps}
use Rattle.recovery_laws.specs.Whole.{Site, are_all_named, has_marked, has_unmarked, is_any_held, is_held, is_kept_at, is_of_number, is_whole, is_whole_by}
use Rattle.resource_managers.specs.Holding.{Holding}

-- one of the number that isn't unmarked is marked
one_kept : (a d k b : Bool) → (a && not k) ≡ false → ((a && d) || b) ≡ (((a && d) && k) || b)
one_kept true true true b e = refl
one_kept true true false b e = absurd cc
one_kept true false k b e = refl
one_kept false d k b e = refl

pairs_kept : (n d : ℕ) (hs : List Holding) → has (is_unmarked n) hs ≡ false → has (λ h. is_of_number n h && (d == h.enlistment)) hs ≡ has (λ h. (is_of_number n h && (d == h.enlistment)) && h.marked) hs
pairs_kept n d [] e = refl
pairs_kept n d (h ∷ hs) e =
    let parts = or_parts (is_unmarked n h) (has (is_unmarked n) hs) e in
    ap (λ b. (is_of_number n h && (d == h.enlistment)) || b) (pairs_kept n d hs parts.1)
    ∙ one_kept (is_of_number n h) (d == h.enlistment) h.marked (has (λ x. (is_of_number n x && (d == x.enlistment)) && x.marked) hs) parts.0

sites_kept : (n : ℕ) (ss : List Site) (p : ℕ × ℕ) → has_unmarked n ss ≡ false → is_held n ss p ≡ is_kept_at n ss p
sites_kept n [] p e = refl
sites_kept n (s ∷ ss) p e =
    let parts = or_parts (has (is_unmarked n) s.held) (has_unmarked n ss) e in
    rw (pairs_kept n p.1 s.held parts.0, sites_kept n ss p parts.1) refl

-- what is neither marked nor unmarked isn't held
one_none : (a k b : Bool) → (a && k) ≡ false → (a && not k) ≡ false → b ≡ false → (a || b) ≡ false
one_none true true b e f g = absurd cc
one_none true false b e f g = absurd cc
one_none false k b e f g = g

pairs_none : (n : ℕ) (hs : List Holding) → has (is_marked n) hs ≡ false → has (is_unmarked n) hs ≡ false → has (is_of_number n) hs ≡ false
pairs_none n [] e f = refl
pairs_none n (h ∷ hs) e f =
    let ms = or_parts (is_marked n h) (has (is_marked n) hs) e in
    let us = or_parts (is_unmarked n h) (has (is_unmarked n) hs) f in
    one_none (is_of_number n h) h.marked (has (is_of_number n) hs) ms.0 us.0 (pairs_none n hs ms.1 us.1)

sites_none : (n : ℕ) (ss : List Site) → has_marked n ss ≡ false → has_unmarked n ss ≡ false → is_any_held n ss ≡ false
sites_none n [] e f = refl
sites_none n (s ∷ ss) e f =
    let ms = or_parts (has (is_marked n) s.held) (has_marked n ss) e in
    let us = or_parts (has (is_unmarked n) s.held) (has_unmarked n ss) f in
    or_from (has (is_of_number n) s.held) (is_any_held n ss) (pairs_none n s.held ms.0 us.0) (sites_none n ss ms.1 us.1)

-- where there is a record, each that it names is kept
all_by : (o : Option CommitRecord) (ss : List Site) (n : ℕ) → is_whole_by o n ss ≡ true → has_unmarked n ss ≡ false → (r : CommitRecord) → o ≡ Some r → each (is_kept_at n ss) r.enlistments ≡ true
all_by o ss n whole off r e =
    let here : is_whole_by (Some r) n ss ≡ true = ap (λ x. is_whole_by x n ss) (sym e) ∙ whole in
    sym (each_same (is_held n ss) (is_kept_at n ss) r.enlistments (λ p. sites_kept n ss p off)) ∙ (and_parts (each (is_held n ss) r.enlistments) (are_all_named n r ss) here).0

pub ended : IsEndedBySteps
unfolding is_whole
ended rs before after n whole off marks = record {
  settled = ap not off;
  all = all_by (first_of (identifier_of n) rs) after n whole off;
  nothing = λ none unmarked. sites_none n after (marks none unmarked) off;
}
