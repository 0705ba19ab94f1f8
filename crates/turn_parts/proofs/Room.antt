-- Records of one run's transactions are few, so a log that has no others has room.
use Rattle.std.proofs.Common.{◌≡◌, ◌≤◌, ◌<◌, ◌+◌, ◌⊎◌, ℕ, zero, suc, Bool, true, false, not, List, [], ◌∷◌, filter, length, Option, Some, None, arith, inl, inr, refl, eq-eqb, sym, subst, ap, ◌∙◌, if◌then◌else◌}
use Rattle.std.proofs.lemmas.Bool.{eqb-true}
use Rattle.std.proofs.lemmas.List.Filters.{length-filter_both}
use Rattle.dtx_model.proofs.Bools.{and_left, and_right}
use Rattle.dtx_model.specs.Log.{CommitRecord, is_record_of}
use Rattle.dtx_model.specs.Promotes.{identifier_of}
use Rattle.dtx_model.specs.Words.{each}
use Rattle.coordinator_log.specs.Slots.{lowest_closed, open_records}
use Rattle.tx_world.specs.AtLog.{AtMostOne, of_others}

-- ---- a list without some records

-- It has no more of those that pass a test,
no_more : (p q : CommitRecord → Bool) (rs : List CommitRecord) → length (filter p (filter q rs)) ≤ length (filter p rs)
no_more p q [] = omega arith
no_more p q (r ∷ rs) = by (q r) (p r) refl (no_more p q rs)
  where
    by : (b c : Bool) → p r ≡ c → length (filter p (filter q rs)) ≤ length (filter p rs)
        → length (filter p (if b then r ∷ filter q rs else filter q rs)) ≤ length (if c then r ∷ filter p rs else filter p rs)
    by true true e ih = rw e (omega arith)
    by true false e ih = rw e ih
    by false true e ih = omega arith
    by false false e ih = ih

-- none of those that are left out,
none_left : (id : ℕ) (rs : List CommitRecord) → filter (is_record_of id) (of_others id rs) ≡ []
none_left id [] = refl
none_left id (r ∷ rs) = by (is_record_of id r) refl (none_left id rs)
  where
    by : (b : Bool) → is_record_of id r ≡ b → filter (is_record_of id) (of_others id rs) ≡ []
        → filter (is_record_of id) (if not b then r ∷ of_others id rs else of_others id rs) ≡ []
    by true e ih = ih
    by false e ih = rw e ih

empty_by : (rs : List CommitRecord) → length rs ≤ 0 → rs ≡ []
empty_by [] e = refl
empty_by (r ∷ rs) e = absurd (omega arith)

-- and none that pass a test where there was none.
none_more : (p q : CommitRecord → Bool) (rs : List CommitRecord) → filter p rs ≡ [] → filter p (filter q rs) ≡ []
none_more p q rs e = empty_by (filter p (filter q rs)) (omega (arith, no_more p q rs, ap length e))

-- ---- how many there are

-- Where no identifier has a record, there is none.
none_there : (rs : List CommitRecord) → ((id : ℕ) → filter (is_record_of id) rs ≡ []) → length rs ≤ 0
none_there [] none = omega arith
none_there (r ∷ rs) none =
    let same : is_record_of r.id r ≡ true = eq-eqb r.id r.id refl in
    let here : (if is_record_of r.id r then r ∷ filter (is_record_of r.id) rs else filter (is_record_of r.id) rs) ≡ [] = none r.id in
    let e = subst (λ (b : Bool). (if b then r ∷ filter (is_record_of r.id) rs else filter (is_record_of r.id) rs) ≡ []) same here in
    absurd cc

-- Records of n identifiers, the first of which stands after b, each of which has at most one, are no more than n.
among : (b n : ℕ) (rs : List CommitRecord) → ((id : ℕ) → AtMostOne id rs) → ((id : ℕ) → (id ≤ b) ⊎ (b + n < id) → filter (is_record_of id) rs ≡ []) → length rs ≤ n
among b zero rs one none = none_there rs (λ id. none id (or_after id))
  where
    or_after : (id : ℕ) → (id ≤ b) ⊎ (b + 0 < id)
    or_after id = grind arith
among b (suc n) rs one none =
    let last : ℕ = b + suc n in
    let others : List CommitRecord = of_others last rs in
    let fewer : length others ≤ n = among b n others others_one others_none in
    let both = length-filter_both (is_record_of last) (λ r. not (is_record_of last r)) (λ r. refl) rs in
    omega (arith, one last, both, fewer)
  where
    others_one : (id : ℕ) → AtMostOne id (of_others (b + suc n) rs)
    others_one id = omega (arith, no_more (is_record_of id) (λ r. not (is_record_of (b + suc n) r)) rs, one id)

    others_none : (id : ℕ) → (id ≤ b) ⊎ (b + n < id) → filter (is_record_of id) (of_others (b + suc n) rs) ≡ []
    others_none id (inl low) = none_more (is_record_of id) (λ r. not (is_record_of (b + suc n) r)) rs (none id (inl low))
    others_none id (inr high) = by (beyond id high)
      where
        beyond : (id : ℕ) → b + n < id → (id ≡ b + suc n) ⊎ (b + suc n < id)
        beyond id high = grind arith

        by : (id ≡ b + suc n) ⊎ (b + suc n < id) → filter (is_record_of id) (of_others (b + suc n) rs) ≡ []
        by (inl e) = rw e (none_left (b + suc n) rs)
        by (inr higher) = none_more (is_record_of id) (λ r. not (is_record_of (b + suc n) r)) rs (none id (inr higher))

-- The records of transactions, each of which has at most one, are no more than the transactions that a script can name.
pub few_records : (rs : List CommitRecord) → ((id : ℕ) → AtMostOne id rs) → ((id : ℕ) → ((t : ℕ) → 1 ≤ t → t ≤ 256 → identifier_of t ≡ id → ⊥) → filter (is_record_of id) rs ≡ []) → length rs ≤ 256
few_records rs one none = among 18446744073709551616 256 rs one (λ id out. none id (λ t low high e. not_out id t low high e out))
  where
    not_out : (id t : ℕ) → 1 ≤ t → t ≤ 256 → identifier_of t ≡ id → (id ≤ 18446744073709551616) ⊎ (18446744073709551616 + 256 < id) → ⊥
    not_out id t low high e (inl below) = omega arith
    not_out id t low high e (inr above) = omega arith

-- so it is with records that are told by a test that only those of transactions pass
pub few_passing : (own : CommitRecord → Bool) (rs : List CommitRecord) → ((r : CommitRecord) → own r ≡ true → (t : ℕ) × (1 ≤ t) × (t ≤ 256) × (r.id ≡ identifier_of t)) → each own rs ≡ true → ((id : ℕ) → AtMostOne id rs) → length rs ≤ 256
few_passing own rs numbered all one = few_records rs one (λ id foreign. none id foreign rs all)
  where
    none : (id : ℕ) → ((t : ℕ) → 1 ≤ t → t ≤ 256 → identifier_of t ≡ id → ⊥) → (rs : List CommitRecord) → each own rs ≡ true → filter (is_record_of id) rs ≡ []
    none id foreign [] all = refl
    none id foreign (r ∷ rs) all = by (is_record_of id r) refl (none id foreign rs (and_right (own r) (each own rs) all))
      where
        by : (b : Bool) → is_record_of id r ≡ b → filter (is_record_of id) rs ≡ [] → (if b then r ∷ filter (is_record_of id) rs else filter (is_record_of id) rs) ≡ []
        by true e ih = let x = numbered r (and_left (own r) (each own rs) all) in absurd (foreign x.0 x.1 x.2 (sym x.3 ∙ eqb-true r.id id e))
        by false e ih = ih

-- ---- the slots of a log

-- Each slot before the lowest closed one has a record.
open_below : (slots : List (Option CommitRecord)) → lowest_closed slots ≤ length (open_records slots)
open_below [] = omega arith
open_below (None ∷ slots) = omega arith
open_below (Some r ∷ slots) = omega (arith, open_below slots)

-- So a log with few records isn't full.
pub has_room : (slots : List (Option CommitRecord)) → length (open_records slots) ≤ 256 → lowest_closed slots ≡ 1024 → ⊥
has_room slots few full = omega (arith, open_below slots)
