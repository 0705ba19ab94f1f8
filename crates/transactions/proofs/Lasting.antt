-- Records that are taken out of a log one by one, where they pass a test.
use Rattle.std.specs.Prelude.{All, Contains, filter}
use Rattle.std.proofs.Common.{◌≡◌, inl, inr, ℕ, Bool, true, false, not, cond, eqb, max, List, [], ◌∷◌, Some, refl, ap, sym, ◌∙◌, arith}
use Rattle.std.proofs.lemmas.Bool.{both_ways, cases_Bool, eqb-true}
use Rattle.std.proofs.lemmas.List.Elements.{All-cons, All-contains, All-contains_itself, All-weaker, Contains-append_right}
use Rattle.dtx_model.specs.Log.{CommitRecord, first_of, is_record_of, without_first_of}
use Rattle.log_epochs.specs.Epochs.{epoch_of, epoch_of_record}

-- those that don't pass are the same without one that does
pub others-without : (p : CommitRecord → Bool) (id : ℕ) (rs : List CommitRecord) (r : CommitRecord) → first_of id rs ≡ Some r → p r ≡ true
    → filter (λ x. not (p x)) (without_first_of id rs) ≡ filter (λ x. not (p x)) rs
others-without p id [] r e test = absurd cc
others-without p id (x ∷ rs) r e test = elim (cases_Bool (eqb x.id id)) [
  | inl same ↦ let is : x ≡ r = let h = rw same at e in cc in let passes : p x ≡ true = ap p is ∙ test in rw (same, passes) refl
  | inr other ↦ rw other (ap (λ (l : List CommitRecord). cond (not (p x)) (x ∷ l) l) (others-without p id rs r (rw other at e) test))
]

-- one that doesn't pass is found still, where it was
pub found-without : (p : CommitRecord → Bool) (id : ℕ) (rs : List CommitRecord) (q : CommitRecord) → first_of id rs ≡ Some q → p q ≡ true
    → (u : ℕ) (r : CommitRecord) → first_of u rs ≡ Some r → p r ≡ false → first_of u (without_first_of id rs) ≡ Some r
found-without p id [] q e test u r there off = absurd cc
found-without p id (x ∷ rs) q e test u r there off = elim (cases_Bool (eqb x.id id)) [
  | inl same ↦ let first : x ≡ q = let h = rw same at e in cc in
      elim (cases_Bool (eqb x.id u)) [
        | inl its ↦ let is : x ≡ r = let h = rw its at there in cc in absurd (both_ways (p r) off (ap p (sym is ∙ first) ∙ test))
        | inr other ↦ rw same (rw other at there)
      ]
  | inr apart ↦ elim (cases_Bool (eqb x.id u)) [
    | inl its ↦ rw (apart, its) (rw its at there)
    | inr other ↦ rw (apart, other) (found-without p id rs q (rw apart at e) test u r (rw other at there) off)
  ]
]

-- a list is among one with an element in front
among_more : (x : CommitRecord) (xs ys : List CommitRecord) → All (Contains xs) ys → All (Contains (x ∷ xs)) ys
among_more x xs ys all = All-weaker (Contains xs) (Contains (x ∷ xs)) (λ y there. Contains-append_right (x ∷ []) xs y there) ys all

-- what is left was there
pub among-without : (id : ℕ) (rs : List CommitRecord) → All (Contains rs) (without_first_of id rs)
among-without id [] = All-contains_itself []
among-without id (x ∷ rs) = elim (cases_Bool (eqb x.id id)) [
  | inl same ↦ rw same (among_more x rs rs (All-contains_itself rs))
  | inr other ↦ rw other (All-cons (Contains (x ∷ rs)) x (without_first_of id rs) (0, omega arith, refl) (among_more x rs (without_first_of id rs) (among-without id rs)))
]

-- what was there of what was there, was there
pub among_both : (xs ys zs : List CommitRecord) → All (Contains xs) ys → All (Contains ys) zs → All (Contains xs) zs
among_both xs ys zs first second = All-weaker (Contains ys) (Contains xs) (λ z there. All-contains (Contains xs) ys z first there) zs second

-- The records of an identifier are among those that don't pass, where none of them passes.
pub among_others : (p : CommitRecord → Bool) (id : ℕ) (rs : List CommitRecord) → ((r : CommitRecord) → r.id ≡ id → p r ≡ false)
    → filter (is_record_of id) (filter (λ x. not (p x)) rs) ≡ filter (is_record_of id) rs
among_others p id [] none = refl
among_others p id (x ∷ rs) none = elim (cases_Bool (eqb x.id id)) [
  | inl same ↦ let off : p x ≡ false = none x (eqb-true x.id id same) in rw (off, same) (ap (λ (l : List CommitRecord). x ∷ l) (among_others p id rs none))
  | inr other ↦ elim (cases_Bool (p x)) [
    | inl passes ↦ rw (passes, other) (among_others p id rs none)
    | inr off ↦ rw (off, other) (among_others p id rs none)
  ]
]

-- so they are the same where those are
pub same_of : (p : CommitRecord → Bool) (id : ℕ) (rs qs : List CommitRecord) → ((r : CommitRecord) → r.id ≡ id → p r ≡ false) → filter (λ x. not (p x)) qs ≡ filter (λ x. not (p x)) rs
    → filter (is_record_of id) qs ≡ filter (is_record_of id) rs
same_of p id rs qs none same = sym (among_others p id qs none) ∙ (ap (filter (is_record_of id)) same ∙ among_others p id rs none)

-- The epoch is that of those that don't pass, where no epoch's record passes.
epoch_others : (p : CommitRecord → Bool) (rs : List CommitRecord) → ((r : CommitRecord) → p r ≡ true → epoch_of_record r ≡ 0) → epoch_of (filter (λ x. not (p x)) rs) ≡ epoch_of rs
epoch_others p [] none = refl
epoch_others p (x ∷ rs) none = elim (cases_Bool (p x)) [
  | inl passes ↦ let zero = none x passes in let rest = epoch_others p rs none in rw passes (omega (arith, zero, rest))
  | inr off ↦ rw off (ap (λ n. max (epoch_of_record x) n) (epoch_others p rs none))
]

-- so it stays where those do
pub epoch_same : (p : CommitRecord → Bool) (rs qs : List CommitRecord) → ((r : CommitRecord) → p r ≡ true → epoch_of_record r ≡ 0) → filter (λ x. not (p x)) qs ≡ filter (λ x. not (p x)) rs
    → epoch_of qs ≡ epoch_of rs
epoch_same p rs qs none same = sym (epoch_others p qs none) ∙ (ap epoch_of same ∙ epoch_others p rs none)
