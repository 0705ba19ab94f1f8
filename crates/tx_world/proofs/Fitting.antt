-- The records that a log keeps of one transaction stay where those of others than another do, and so they fit it as before.
use Rattle.std.proofs.Common.{◌≡◌, ◌≢◌, ◌≤◌, ℕ, Bool, true, false, not, List, [], ◌∷◌, filter, length, Option, Some, refl, ap, sym, subst, ◌∙◌, inl, inr, if◌then◌else◌, arith}
use Rattle.std.proofs.lemmas.Bool.{eqb-true}
use Rattle.std.proofs.lemmas.Bool.Decides.{eqb_tells}
use Rattle.dtx_values.specs.TxIds.{number_of}
use Rattle.dtx_values.specs.declared.tx_id.TxId.{TxId}
use Rattle.dtx_model.specs.Log.{CommitRecord, first_of, is_record_of}
use Rattle.dtx_model.specs.Promotes.{identifier_of}
use Rattle.dtx_values.proofs.Ids.{same_id}
use Rattle.tx_world.specs.State.{TxState}
use Rattle.tx_world.specs.AtLog.{Fits, Tie, id_of, of_others}

-- The records of one identifier stand among those of others than another.
skipped : {A : Type 0} (b : Bool) (x : A) (xs : List A) → b ≡ false → (if b then x ∷ xs else xs) ≡ xs
skipped true x xs e = absurd cc
skipped false x xs e = refl

among_others : (id u : ℕ) (rs : List CommitRecord) → u ≢ id → filter (is_record_of u) (of_others id rs) ≡ filter (is_record_of u) rs
among_others id u [] n = refl
among_others id u (r ∷ rs) n = step (is_record_of id r) refl (among_others id u rs n)
  where
    not_it : is_record_of id r ≡ true → is_record_of u r ≡ false
    not_it q = elim (eqb_tells r.id u) [ inl k ↦ absurd (n (sym k.1 ∙ eqb-true r.id id q)) | inr k ↦ k.0 ]

    step : (b : Bool) → is_record_of id r ≡ b → filter (is_record_of u) (of_others id rs) ≡ filter (is_record_of u) rs
        → filter (is_record_of u) (if not b then r ∷ of_others id rs else of_others id rs) ≡ (if is_record_of u r then r ∷ filter (is_record_of u) rs else filter (is_record_of u) rs)
    step true q ih = ih ∙ sym (skipped (is_record_of u r) r (filter (is_record_of u) rs) (not_it q))
    step false q ih = ap (λ (xs : List CommitRecord). if is_record_of u r then r ∷ xs else xs) ih

-- so where those of others than one stay, those of another identifier do
pub kept_other : (id u : ℕ) (rs qs : List CommitRecord) → of_others id qs ≡ of_others id rs → u ≢ id → filter (is_record_of u) qs ≡ filter (is_record_of u) rs
kept_other id u rs qs e n = sym (among_others id u qs n) ∙ (ap (filter (is_record_of u)) e ∙ among_others id u rs n)

-- the first record of an identifier is the first of its records
pub first_there : (u : ℕ) (rs : List CommitRecord) → first_of u (filter (is_record_of u) rs) ≡ first_of u rs
first_there u [] = refl
first_there u (r ∷ rs) = step (is_record_of u r) refl (first_there u rs)
  where
    step : (b : Bool) → is_record_of u r ≡ b → first_of u (filter (is_record_of u) rs) ≡ first_of u rs
        → first_of u (if b then r ∷ filter (is_record_of u) rs else filter (is_record_of u) rs) ≡ (if b then Some r else first_of u rs)
    step true q ih = rw q refl
    step false q ih = ih

-- So where the records of its identifier stay, they fit a transaction as before.
pub fits_same : (x : TxState) (rs qs : List CommitRecord) → filter (is_record_of (id_of x)) qs ≡ filter (is_record_of (id_of x)) rs → Fits x rs → Fits x qs
fits_same x rs qs e f =
    let id = id_of x in
    let first : first_of id rs ≡ first_of id qs = sym (first_there id rs) ∙ (ap (first_of id) (sym e) ∙ first_there id qs) in
    record {
      tie = subst (λ (o : Option CommitRecord). Tie x.ours x.unsure o) first f.tie;
      one = subst (λ (xs : List CommitRecord). length xs ≤ 1) (sym e) f.one;
    }

-- transactions have identifiers of their own
pub own_identifier : (u t : TxId) → u ≢ t → identifier_of (number_of u) ≢ identifier_of (number_of t)
own_identifier u t n = λ e. n (same_id u t (omega (arith, e)))
