-- No two clones have the same number.
use Rattle.std.proofs.Common.{◌≡◌, ◌∙◌, ℕ, true, false, ◌||◌, not, List, [], ◌∷◌, ◌++◌, refl, ap, subst, sym, arith, inl, inr}
use Rattle.std.proofs.lemmas.Bool.{and_from, and_left, and_parts, cases_Bool, eqb-true, not-true, not_from_false, or_cases, or_from, or_parts, or_right}
use Rattle.std.proofs.lemmas.Bool.Decides.{nat_tests}
use Rattle.std.specs.List.{list_any}
use Rattle.dtx_values.specs.declared.row.CloneRow.{CloneRow}
use Rattle.dtx_values.specs.Clones.{is_clone, is_complete_clone, with_complete}
use Rattle.dependent_clones.specs.Distinct.{complete_in, distinct}

-- a new number at the end isn't among the others
pub absent-more : (k : ℕ) (rs : List CloneRow) (r : CloneRow) → list_any (is_clone k) rs ≡ false → is_clone k r ≡ false → list_any (is_clone k) (rs ++ r ∷ []) ≡ false
absent-more k [] r a b = or_from (is_clone k r) false b refl
absent-more k (x ∷ rs) r a b =
    let apart = or_parts (is_clone k x) (list_any (is_clone k) rs) a in
    or_from (is_clone k x) (list_any (is_clone k) (rs ++ r ∷ [])) apart.0 (absent-more k rs r apart.1 b)

-- the numbers stay distinct with a new one at the end
pub distinct-more : (r : CloneRow) (rs : List CloneRow) → list_any (is_clone r.clone.value) rs ≡ false → distinct rs ≡ true → distinct (rs ++ r ∷ []) ≡ true
distinct-more r [] a d = refl
distinct-more r (x ∷ rs) a d =
    let apart = or_parts (is_clone r.clone.value x) (list_any (is_clone r.clone.value) rs) a in
    let both = and_parts (not (list_any (is_clone x.clone.value) rs)) (distinct rs) d in
    let away : is_clone x.clone.value r ≡ false = grind (arith, nat_tests, apart.0) in
    let new = absent-more x.clone.value rs r (not-true (list_any (is_clone x.clone.value) rs) both.0) away in
    and_from (not (list_any (is_clone x.clone.value) (rs ++ r ∷ []))) (distinct (rs ++ r ∷ [])) (not_from_false _ new) (distinct-more r rs apart.1 both.1)

-- a completed clone keeps its number
pub stands-complete : (k c : ℕ) (rs : List CloneRow) → list_any (is_clone k) (with_complete c rs) ≡ list_any (is_clone k) rs
stands-complete k c [] = refl
stands-complete k c (r ∷ rs) = ap (λ b. is_clone k r || b) (stands-complete k c rs)

-- the numbers stay distinct where a clone is completed
pub distinct-complete : (c : ℕ) (rs : List CloneRow) → distinct (with_complete c rs) ≡ distinct rs
distinct-complete c [] = refl
distinct-complete c (r ∷ rs) = rw (stands-complete r.clone.value c rs, distinct-complete c rs) refl

-- a row of another clone stays
pub complete-other : (c : ℕ) (r : CloneRow) → is_clone c r ≡ false → complete_in c r ≡ r
complete-other c r away = ap (λ b. record { clone = r.clone; kind = r.kind; complete = b || r.complete }) away

-- a complete row stays
pub complete-kept : (c : ℕ) (r : CloneRow) → r.complete ≡ true → complete_in c r ≡ r
complete-kept c r done = let same : (is_clone c r || r.complete) ≡ r.complete = or_right (is_clone c r) r.complete done ∙ sym done in
    ap (λ b. record { clone = r.clone; kind = r.kind; complete = b }) same

-- a clone that doesn't stand isn't completed
pub complete-absent : (c : ℕ) (rs : List CloneRow) → list_any (is_clone c) rs ≡ false → with_complete c rs ≡ rs
complete-absent c [] a = refl
complete-absent c (r ∷ rs) a =
    let apart = or_parts (is_clone c r) (list_any (is_clone c) rs) a in
    λ i. complete-other c r apart.0 i ∷ complete-absent c rs apart.1 i

-- a complete clone stands
pub complete-stands : (c : ℕ) (rs : List CloneRow) → list_any (is_clone c) rs ≡ false → list_any (is_complete_clone c) rs ≡ false
complete-stands c [] a = refl
complete-stands c (r ∷ rs) a =
    let apart = or_parts (is_clone c r) (list_any (is_clone c) rs) a in
    or_from (is_complete_clone c r) (list_any (is_complete_clone c) rs) (and_left (is_clone c r) r.complete apart.0) (complete-stands c rs apart.1)

-- a complete clone isn't completed again
pub complete-again : (c : ℕ) (rs : List CloneRow) → distinct rs ≡ true → list_any (is_complete_clone c) rs ≡ true → with_complete c rs ≡ rs
complete-again c [] d p = refl
complete-again c (r ∷ rs) d p =
    let both = and_parts (not (list_any (is_clone r.clone.value) rs)) (distinct rs) d in
    let alone : is_clone c r ≡ true → list_any (is_clone c) rs ≡ false =
    λ here. subst (λ k. list_any (is_clone k) rs ≡ false) (sym (eqb-true c r.clone.value here)) (not-true (list_any (is_clone r.clone.value) rs) both.0) in
    elim (or_cases (is_complete_clone c r) (list_any (is_complete_clone c) rs) p) [
      | inl q ↦ let done = and_parts (is_clone c r) r.complete q in λ i. complete-kept c r done.1 i ∷ complete-absent c rs (alone done.0) i
      | inr q ↦ elim (cases_Bool (is_clone c r)) [
        | inl here ↦ let none = complete-stands c rs (alone here) in absurd cc
        | inr away ↦ λ i. complete-other c r away i ∷ complete-again c rs both.1 q i
      ]
    ]
