-- The records of a log stay in order: where those of one transaction change, where an epoch begins, and where some are freed.
use Rattle.std.specs.Prelude.{All, Contains, filter}
use Rattle.std.proofs.Common.{◌≡◌, ◌≢◌, ◌∙◌, ◌≤◌, inl, inr, ℕ, zero, suc, Bool, true, false, not, eqb, List, [], ◌∷◌, length, Option, Some, None, refl, ap, subst, sym, arith}
use Rattle.std.proofs.lemmas.Bool.{and_left as off_and, both_ways, cases_Bool, eq-eqb, eqb-true}
use Rattle.std.proofs.lemmas.List.Elements.{All-contains, All-contains_itself, All-nil, All-weaker, Contains-append_right}
use Rattle.dtx_values.specs.TxIds.{identifier_of_id}
use Rattle.dtx_values.specs.declared.number.RmNo.{RmNo}
use Rattle.dtx_values.specs.declared.tx_id.TxId.{TxId}
use Rattle.dtx_model.proofs.Bools.{and_left, and_right}
use Rattle.dtx_model.specs.Log.{CommitRecord, first_of, is_record_of}
use Rattle.dtx_model.specs.Outcome.{is_empty}
use Rattle.log_epochs.proofs.Records.{same_first, same_records}
use Rattle.log_epochs.specs.Epochs.{commits_of, is_epoch, is_epoch_record}
use Rattle.world_parts.specs.AtLog.{AtMostOne, of_others}
use Rattle.transactions.specs.Logged.{AreInOrder}
use Rattle.transactions.specs.Recovering.{OnlyFrees}
use Rattle.transactions.specs.State.{LiveState}
use Rattle.transactions.proofs.Covering.{first_there, none_there, unique_among}
use Rattle.transactions.proofs.Untouched.{first_stays}

-- a record that passes a test is among those that do
kept_in : (p : CommitRecord → Bool) (rs : List CommitRecord) (r : CommitRecord) → Contains rs r → p r ≡ true → Contains (filter p rs) r
kept_in p [] r (k, lt, at) pass = absurd (omega (arith, lt))
kept_in p (x ∷ rs) r there pass = elim (cases_Bool (p x)) [
  | inl hit ↦ rw hit (by (λ k. kept_in p rs r k pass) there)
  | inr miss ↦ rw miss (skip (λ k. kept_in p rs r k pass) miss there)
]
  where
    by : (Contains rs r → Contains (filter p rs) r) → Contains (x ∷ rs) r → Contains (x ∷ filter p rs) r
    by ih (zero, lt, at) = (zero, omega arith, at)
    by ih (suc k, lt, at) = Contains-append_right (x ∷ []) (filter p rs) r (ih (k, omega (arith, lt), at))

    skip : (Contains rs r → Contains (filter p rs) r) → p x ≡ false → Contains (x ∷ rs) r → Contains (filter p rs) r
    skip ih miss (zero, lt, at) = absurd (both_ways (p x) miss (ap p at ∙ pass))
    skip ih miss (suc k, lt, at) = ih (k, omega (arith, lt), at)

-- and what is among those was there
was_in : (p : CommitRecord → Bool) (rs : List CommitRecord) (r : CommitRecord) → Contains (filter p rs) r → Contains rs r
was_in p [] r there = there
was_in p (x ∷ rs) r there = elim (cases_Bool (p x)) [
  | inl hit ↦ let h : Contains (x ∷ filter p rs) r = rw hit at there in by (was_in p rs r) h
  | inr miss ↦ let h : Contains (filter p rs) r = rw miss at there in Contains-append_right (x ∷ []) rs r (was_in p rs r h)
]
  where
    by : (Contains (filter p rs) r → Contains rs r) → Contains (x ∷ filter p rs) r → Contains (x ∷ rs) r
    by ih (zero, lt, at) = (zero, omega arith, at)
    by ih (suc k, lt, at) = Contains-append_right (x ∷ []) rs r (ih (k, omega (arith, lt), at))

-- one that is there counts
counts : (p : CommitRecord → Bool) (rs : List CommitRecord) (r : CommitRecord) → Contains rs r → p r ≡ true → length (filter p rs) ≢ 0
counts p rs r there pass none = let at = kept_in p rs r there pass in let lt = at.1 in omega (arith, lt, none)

-- of at most one record of an identifier, the one that is there is found
one_found : (id : ℕ) (rs : List CommitRecord) (r : CommitRecord) → AtMostOne id rs → Contains rs r → r.id ≡ id → first_of id rs ≡ Some r
one_found id [] r one (k, lt, at) is = absurd (omega (arith, lt))
one_found id (x ∷ rs) r one there is = elim (cases_Bool (eqb x.id id)) [
  | inl same ↦ let few : length (x ∷ filter (is_record_of id) rs) ≤ 1 = rw same at one in rw same (by same few there)
  | inr other ↦ let few : AtMostOne id rs = rw other at one in rw other (skip (λ less k. one_found id rs r less k is) other few there)
]
  where
    by : eqb x.id id ≡ true → length (x ∷ filter (is_record_of id) rs) ≤ 1 → Contains (x ∷ rs) r → Some x ≡ Some r
    by same few (zero, lt, at) = ap Some at
    by same few (suc k, lt, at) = absurd (counts (is_record_of id) rs r (k, omega (arith, lt), at) (eq-eqb r.id id is) (omega (arith, few)))

    skip : (AtMostOne id rs → Contains rs r → first_of id rs ≡ Some r) → eqb x.id id ≡ false → AtMostOne id rs → Contains (x ∷ rs) r → first_of id rs ≡ Some r
    skip ih other few (zero, lt, at) = absurd (both_ways (eqb x.id id) other (eq-eqb x.id id (ap (λ (y : CommitRecord). y.id) at ∙ is)))
    skip ih other few (suc k, lt, at) = ih few (k, omega (arith, lt), at)

-- Where the records of all other transactions than this one stay, and it has at most one, all stay in order.
pub order_of_others : (t : TxId) (rs qs : List CommitRecord) → is_epoch (identifier_of_id t) ≡ false → of_others (identifier_of_id t) rs ≡ of_others (identifier_of_id t) qs → AtMostOne (identifier_of_id t) rs → AreInOrder qs → AreInOrder rs
order_of_others t rs qs apart same one order = record {
  unique = All-weaker (Contains rs) (λ r. first_of r.id rs ≡ Some r) (λ r there. unique r there (eqb r.id id) refl) rs (All-contains_itself rs);
  epochs = All-weaker (Contains rs) (λ r. is_epoch r.id ≡ is_epoch_record r) (λ r there. epoch r there (eqb r.id id) refl) rs (All-contains_itself rs);
}
  where
    id : ℕ
    id = identifier_of_id t

    before : (r : CommitRecord) → Contains rs r → eqb r.id id ≡ false → Contains qs r
    before r there off =
        was_in (λ x. not (is_record_of id x)) qs r (subst (λ (l : List CommitRecord). Contains l r) same (kept_in (λ x. not (is_record_of id x)) rs r there (ap not off)))

    unique : (r : CommitRecord) → Contains rs r → (b : Bool) → eqb r.id id ≡ b → first_of r.id rs ≡ Some r
    unique r there true is = let e = eqb-true r.id id is in ap (λ n. first_of n rs) e ∙ one_found id rs r one there e
    unique r there false off = first_stays id r.id qs rs off same ∙ All-contains (λ x. first_of x.id qs ≡ Some x) qs r order.unique (before r there off)

    epoch : (r : CommitRecord) → Contains rs r → (b : Bool) → eqb r.id id ≡ b → is_epoch r.id ≡ is_epoch_record r
    epoch r there true is = let none : is_epoch r.id ≡ false = ap is_epoch (eqb-true r.id id is) ∙ apart in none ∙ sym (off_and (is_epoch r.id) (is_empty r.enlistments) none)
    epoch r there false off = All-contains (λ x. is_epoch x.id ≡ is_epoch_record x) qs r order.epochs (before r there off)

-- two records of one epoch are the same
same_epoch : (q r : CommitRecord) → is_epoch_record q ≡ true → is_epoch_record r ≡ true → q.id ≡ r.id → q ≡ r
same_epoch q r a b same = both q.id r.id q.enlistments r.enlistments same (none q.enlistments (and_right (is_epoch q.id) (is_empty q.enlistments) a) ∙ sym (none r.enlistments (and_right (is_epoch r.id) (is_empty r.enlistments) b)))
  where
    none : (xs : List (ℕ × ℕ)) → is_empty xs ≡ true → xs ≡ []
    none [] e = refl
    none (x ∷ xs) e = absurd cc

    both : (i j : ℕ) (xs ys : List (ℕ × ℕ)) → i ≡ j → xs ≡ ys → ◌≡◌ {A = CommitRecord} (record { id = i; enlistments = xs }) (record { id = j; enlistments = ys })
    both i j xs ys p q = rw (p, q) refl

-- Where the records of transactions stay, they stay in order, whichever epochs are there.
pub order_of_commits : (rs qs : List CommitRecord) → commits_of rs ≡ commits_of qs → AreInOrder qs → AreInOrder rs
order_of_commits rs qs same order = record {
  unique = All-weaker (Contains rs) (λ r. first_of r.id rs ≡ Some r) (λ r there. unique r there (is_epoch_record r) refl) rs (All-contains_itself rs);
  epochs = All-weaker (Contains rs) (λ r. is_epoch r.id ≡ is_epoch_record r) (λ r there. epoch r there (is_epoch_record r) refl) rs (All-contains_itself rs);
}
  where
    before : (r : CommitRecord) → Contains rs r → is_epoch_record r ≡ false → Contains qs r
    before r there off =
        was_in (λ x. not (is_epoch_record x)) qs r (subst (λ (l : List CommitRecord). Contains l r) same (kept_in (λ x. not (is_epoch_record x)) rs r there (ap not off)))

    epoch : (r : CommitRecord) → Contains rs r → (b : Bool) → is_epoch_record r ≡ b → is_epoch r.id ≡ is_epoch_record r
    epoch r there true is = and_left (is_epoch r.id) (is_empty r.enlistments) is ∙ sym is
    epoch r there false off = All-contains (λ x. is_epoch x.id ≡ is_epoch_record x) qs r order.epochs (before r there off)

    unique : (r : CommitRecord) → Contains rs r → (b : Bool) → is_epoch_record r ≡ b → first_of r.id rs ≡ Some r
    unique r there true is = by (first_of r.id rs) refl
      where
        by : (o : Option CommitRecord) → first_of r.id rs ≡ o → first_of r.id rs ≡ Some r
        by None none = absurd (none_there r.id rs r none there refl)
        by (Some q) found =
            let at = first_there r.id rs q found in
            let other : is_epoch q.id ≡ true = ap is_epoch at.1 ∙ (epoch r there true is ∙ is) in
            let kind : is_epoch_record q ≡ true = elim (cases_Bool (is_epoch_record q)) [ inl hit ↦ hit | inr miss ↦ absurd (both_ways (is_epoch q.id) (epoch q at.0 false miss ∙ miss) other) ] in
            found ∙ ap Some (same_epoch q r kind is at.1)
    unique r there false off =
        let none : is_epoch r.id ≡ false = epoch r there false off ∙ off in
        same_first r.id qs rs (same_records r.id qs rs none same) ∙ All-contains (λ x. first_of x.id qs ≡ Some x) qs r order.unique (before r there off)

-- Where some were freed, the others are in order.
pub order_of_freed : (ms : List RmNo) (xs : List LiveState) (rs qs : List CommitRecord) → OnlyFrees ms xs qs rs → AreInOrder qs → AreInOrder rs
order_of_freed ms xs rs qs frees order = record {
  unique = unique_among qs rs order.unique frees.among;
  epochs = All-weaker (Contains qs) (λ r. is_epoch r.id ≡ is_epoch_record r) (λ r there. All-contains (λ x. is_epoch x.id ≡ is_epoch_record x) qs r order.epochs there) rs frees.among;
}

-- an empty log is in order
pub order_of_none : AreInOrder []
order_of_none = record { unique = All-nil (λ r. first_of r.id [] ≡ Some r); epochs = All-nil (λ r. is_epoch r.id ≡ is_epoch_record r) }
