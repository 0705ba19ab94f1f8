-- Which records a recovery frees, as the law of recovery one by one says it.
use Rattle.std.specs.Prelude.{All, Contains}
use Rattle.std.proofs.Common.{◌≡◌, ◌∙◌, ◌++◌, ◌⊎◌, inl, inr, ℕ, zero, suc, Bool, true, false, ◌&&◌, ◌==◌, eqb, not, List, [], ◌∷◌, map, Option, Some, None, refl, ap, sym, arith}
use Rattle.std.proofs.lemmas.Bool.{both_ways, cases_Bool, eq-eqb, eqb-true}
use Rattle.std.proofs.lemmas.List.{map-append}
use Rattle.std.proofs.lemmas.List.Elements.{All-contains, All-contains_itself, All-weaker, Contains-append_right}
use Rattle.dtx_values.specs.declared.number.RmNo.{RmNo}
use Rattle.dtx_model.specs.Log.{CommitRecord, first_of}
use Rattle.log_epochs.specs.Epochs.{is_epoch_record}
use Rattle.recovery_laws.specs.OneByOne.{covers, is_among}
use Rattle.recovery_laws.proofs.Changing.{each_same}
use Rattle.transactions.specs.Recovering.{OnlyFrees, has_place, has_recovered, is_covered, may_be_freed}
use Rattle.transactions.specs.Logged.{AreUnique}
use Rattle.transactions.specs.Recovery.{IsOneOf, number_of_manager}
use Rattle.transactions.specs.State.{LiveState}
use Rattle.transactions.proofs.Freeing.{list_any-map}

-- the managers on the desk cover a record by their numbers
covered_is : (ms : List RmNo) (r : CommitRecord) → covers (map number_of_manager ms) r ≡ is_covered ms r
covered_is ms r = each_same (λ p. is_among p.0 (map number_of_manager ms)) (λ p. has_recovered p.0 ms) r.enlistments (λ p. list_any-map (λ k. k == p.0) number_of_manager ms)

-- a record that isn't covered may not be freed
uncovered : (ms : List RmNo) (xs : List LiveState) (r : CommitRecord) → is_covered ms r ≡ false → may_be_freed ms xs r ≡ false
uncovered ms xs r off = ap (λ c. not (is_epoch_record r) && not (has_place r.id xs) && c) off ∙ by (not (is_epoch_record r)) (not (has_place r.id xs))
  where
    by : (a b : Bool) → (a && b && false) ≡ false
    by true true = refl
    by true false = refl
    by false b = refl

-- what was found under an identifier is there, and has it
pub first_there : (id : ℕ) (rs : List CommitRecord) (r : CommitRecord) → first_of id rs ≡ Some r → Contains rs r × (r.id ≡ id)
first_there id [] r e = absurd cc
first_there id (x ∷ rs) r e = elim (cases_Bool (eqb x.id id)) [
  | inl same ↦ let is : x ≡ r = let h = rw same at e in cc in ((0, omega arith, is), ap (λ (y : CommitRecord). y.id) (sym is) ∙ eqb-true x.id id same)
  | inr other ↦ let there = first_there id rs r (rw other at e) in (Contains-append_right (x ∷ []) rs r there.0, there.1)
]

-- what is found afterwards was found before
found_before : (id : ℕ) (rs qs : List CommitRecord) → AreUnique rs → All (Contains rs) qs → (o : Option CommitRecord) → first_of id qs ≡ o → (first_of id qs ≡ first_of id rs) ⊎ (first_of id qs ≡ None)
found_before id rs qs unique among None is = inr is
found_before id rs qs unique among (Some r) is =
    let there = first_there id qs r is in
    inl (is ∙ sym (ap (λ n. first_of n rs) (sym there.1) ∙ All-contains (λ x. first_of x.id rs ≡ Some x) rs r unique (All-contains (Contains rs) qs r among there.0)))

-- what is there is found, or another of its transaction is
pub none_there : (id : ℕ) (rs : List CommitRecord) (r : CommitRecord) → first_of id rs ≡ None → Contains rs r → r.id ≡ id → ⊥
none_there id [] r none (k, lt, at) is = absurd (omega (arith, lt))
none_there id (x ∷ rs) r none there is = elim (cases_Bool (eqb x.id id)) [
  | inl same ↦ let h = rw same at none in absurd cc
  | inr other ↦ by (λ h. none_there id rs r (rw other at none) h is) other there
]
  where
    by : (Contains rs r → ⊥) → eqb x.id id ≡ false → Contains (x ∷ rs) r → ⊥
    by ih other (zero, lt, at) = both_ways (eqb x.id id) other (eq-eqb x.id id (ap (λ (y : CommitRecord). y.id) at ∙ is))
    by ih other (suc k, lt, at) = ih (k, omega (arith, lt), at)

-- of the records that are left no transaction has two
pub unique_among : (rs qs : List CommitRecord) → AreUnique rs → All (Contains rs) qs → AreUnique qs
unique_among rs qs unique among = All-weaker (Contains qs) (λ r. first_of r.id qs ≡ Some r) (λ r there. by r there (first_of r.id qs) refl) qs (All-contains_itself qs)
  where
    first_in : (r : CommitRecord) → Contains qs r → first_of r.id rs ≡ Some r
    first_in r there = All-contains (λ x. first_of x.id rs ≡ Some x) rs r unique (All-contains (Contains rs) qs r among there)

    by : (r : CommitRecord) → Contains qs r → (o : Option CommitRecord) → first_of r.id qs ≡ o → first_of r.id qs ≡ Some r
    by r there None is = absurd (none_there r.id qs r is there refl)
    by r there (Some q) is =
        let at = first_there r.id qs q is in
        is ∙ sym (first_in q at.0) ∙ ap (λ n. first_of n rs) at.1 ∙ first_in r there

-- so the freeing is that of one call of recovery
pub one_of : (desk : List RmNo) (m : RmNo) (xs : List LiveState) (rs qs : List CommitRecord) → OnlyFrees (desk ++ m ∷ []) xs rs qs → IsOneOf desk m rs qs
one_of desk m xs rs qs frees unique = (
  unique_among rs qs unique frees.among,
  λ sites. record {
    settles = refl;
    kept = λ id r there off.
        frees.found id r there (uncovered (desk ++ m ∷ []) xs r (sym (covered_is (desk ++ m ∷ []) r) ∙ ap (λ ms. covers ms r) (map-append number_of_manager desk (m ∷ [])) ∙ off));
    either = λ id. found_before id rs qs unique frees.among (first_of id qs) refl;
  },
)
