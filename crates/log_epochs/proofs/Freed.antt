-- The freeing of earlier epochs' records.
use Rattle.std.specs.Prelude.{IfErr, IsErrOf, IsFalse, OnOk}
use Rattle.std.specs.List.{filter_map}
use Rattle.std.specs.Option.{option_map}
use Rattle.std.proofs.Common.{◌≡◌, ◌≢◌, ◌⊎◌, inl, inr, ℕ, suc, ◌≤◌, ◌<◌, true, false, ltb, eqb, List, [], ◌∷◌, length, get_or, Option, Some, None, Result, Ok, Err, refl, ap, sym, ◌∙◌, arith}
use Rattle.std.proofs.lemmas.Bool.{and_from, and_parts, both_ways, cases_Bool, eqb-true, false_from_ne_true, ltb-true, lt-ltb, not_from_true}
use Rattle.dtx_values.specs.declared.record.LogRecord.{LogRecord}
use Rattle.dtx_model.specs.Log.{CommitRecord, first_of, record_of, without_first_of}
use Rattle.coordinator_log.specs.Slots.{open_records}
use Rattle.coordinator_log.specs.State.{LogState}
use Rattle.coordinator_log.specs.declared.refusal.LogRefusal.{LogRefusal}
use Rattle.coordinator_log.specs.declared.refusal.LogRefusal.TheVariants.{NoSuch, Stopped, StoppedNow}
use Rattle.log_epochs.specs.Beginning.{AreFreed, IsAtEpoch, is_earlier, is_passed}
use Rattle.log_epochs.specs.Epochs.{commits_of, epoch_of, epoch_of_record, epoch_record, identifier_of_epoch, is_epoch_record}
use Rattle.log_epochs.proofs.Names.{record_again}
use Rattle.log_epochs.proofs.Records.{commits-without, epoch-without, length-without}

-- what was found is a record, of an epoch before n
pub earlier_is : (n : ℕ) (o : Option CommitRecord) → is_earlier n o ≡ true → (r : CommitRecord) × (o ≡ Some r) × (is_epoch_record r ≡ true) × (epoch_of_record r < n)
earlier_is n None e = absurd cc
earlier_is n (Some r) e = let parts = and_parts (is_epoch_record r) (ltb (epoch_of_record r) n) e in (r, refl, parts.0, ltb-true (epoch_of_record r) n parts.1)

-- without it the transactions have the same records, and the epoch stays
pub still_at : (n id : ℕ) (rs : List CommitRecord) → epoch_of rs ≡ n → is_earlier n (first_of id rs) ≡ true → IsAtEpoch n rs (without_first_of id rs)
still_at n id rs latest e =
    let found = earlier_is n (first_of id rs) e in
    let counts = epoch-without id rs found.0 found.1 in
    let less = found.3 in
    record { commits = commits-without id rs found.0 found.1 found.2; epoch = omega (arith, counts, less, latest) }

-- there is one less
pub fewer : (n id : ℕ) (rs : List CommitRecord) → is_earlier n (first_of id rs) ≡ true → length (without_first_of id rs) < length rs
fewer n id rs e = let found = earlier_is n (first_of id rs) e in length-without id rs found.0 found.1

-- where each slot was passed, none of an epoch before n is found
pub none_found : (n : ℕ) (rs : List CommitRecord) (ss : List (Option LogRecord)) → ((k : ℕ) → k < length ss → is_passed n rs (option_map record_of (get_or ss k None)) ≡ true)
    → (id : ℕ) → first_of id (filter_map (option_map record_of) ss) ≡ first_of id rs → is_earlier n (first_of id rs) ≡ false
none_found n rs [] passed id e = ap (is_earlier n) (sym e)
none_found n rs (None ∷ ss) passed id e = none_found n rs ss (λ k lt. passed (suc k) (omega arith)) id e
none_found n rs (Some r ∷ ss) passed id e = elim (cases_Bool (eqb r.id id)) [
  | inl same ↦
      let first : Some (record_of r) ≡ first_of id rs = rw same at e in
      let here : is_passed n rs (Some (record_of r)) ≡ true = passed 0 (omega arith) in
      false_from_ne_true (is_earlier n (first_of id rs))
      (λ yes. both_ways (is_passed n rs (Some (record_of r)))
      (not_from_true _ (and_from (is_earlier n (Some (record_of r))) (is_earlier n (first_of r.id rs)) (ap (is_earlier n) first ∙ yes) (ap (λ (j : ℕ). is_earlier n (first_of j rs)) (eqb-true r.id id same) ∙ yes)))
      here)
  | inr other ↦ none_found n rs ss (λ k lt. passed (suc k) (omega arith)) id (rw other at e)
]

-- so none is left
pub all_freed : (n : ℕ) (rs : List CommitRecord) → n ≤ 4294967295 → ((id : ℕ) → is_earlier n (first_of id rs) ≡ false) → AreFreed n rs
all_freed n rs high none m low less e =
    let again = record_again m low (omega arith) in
    both_ways (is_earlier n (first_of (identifier_of_epoch m) rs)) (none (identifier_of_epoch m))
    (ap (is_earlier n) e ∙ and_from (is_epoch_record (epoch_record m)) (ltb (epoch_of_record (epoch_record m)) n) again.0 (lt-ltb _ n (let is = again.1 in omega arith)))

-- whatever a free answers, the transactions have the same records, and the epoch stays
pub after_free : {D : Type 0} (n id : ℕ) (old new : LogState D) (result : Result (Unit {0}) LogRefusal) → epoch_of (open_records old.slots) ≡ n → is_earlier n (first_of id (open_records old.slots)) ≡ true
    → OnOk result (open_records new.slots ≡ without_first_of id (open_records old.slots))
    → IfErr result (λ e. (e ≡ Stopped) ⊎ ((e ≡ NoSuch id) ⊎ (e ≡ StoppedNow))) → IfErr result (λ e. e ≢ StoppedNow → new ≡ old)
    → (IsErrOf result StoppedNow → IsFalse new.is_up × (new.slots ≡ old.slots)) → IsAtEpoch n (open_records old.slots) (open_records new.slots)
after_free n id old new (Ok x) latest found records only unchanged stopped = rw records (still_at n id (open_records old.slots) latest found)
after_free {D} n id old new (Err e) latest found records only unchanged stopped =
    let same : new.slots ≡ old.slots = elim only [
      | inl is ↦ ap (λ (l : LogState D). l.slots) (unchanged (λ now. absurd cc))
      | inr other ↦ elim other [
        | inl is ↦ ap (λ (l : LogState D). l.slots) (unchanged (λ now. absurd cc))
        | inr now ↦ (stopped (ap (λ (x : LogRefusal). Err x) now)).1
      ]
    ] in
    record {
      commits = ap (λ (l : List (Option CommitRecord)). commits_of (open_records l)) same;
      epoch = ap (λ (l : List (Option CommitRecord)). epoch_of (open_records l)) same ∙ latest;
    }
