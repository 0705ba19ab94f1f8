-- The records that may be freed, and the freeing of them.
use Rattle.std.specs.Prelude.{IfErr, IsErr, IsErrOf, IsFalse, IsOkAnd, IsTrue, OnOk}
use Rattle.std.specs.List.{filter_map, list_any}
use Rattle.std.specs.Option.{option_map}
use Rattle.std.proofs.Common.{◌≡◌, ◌≢◌, ◌⊎◌, inl, inr, ℕ, zero, suc, ◌+◌, ◌==◌, ◌≤◌, ◌<◌, ◌++◌, Bool, true, false, ◌||◌, eqb, List, [], ◌∷◌, length, map, get_or, slice_get, Option, Some, None, Result, Ok, Err, refl, ap, sym, ◌∙◌, subst, arith}
use Rattle.std.proofs.lemmas.Bool.{and_from, both_ways, cases_Bool, eqb-true, false_from_ne_true, not_from_true}
use Rattle.std.proofs.lemmas.List.Elements.{All-contains_itself}
use Rattle.dtx_values.specs.TxIds.{identifier_of_id}
use Rattle.dtx_values.specs.declared.number.RmNo.{RmNo}
use Rattle.dtx_values.specs.declared.record.LogRecord.{LogRecord}
use Rattle.dtx_values.specs.declared.tx_id.TxId.{TxId}
use Rattle.dtx_values.proofs.Ids.{same_id}
use Rattle.dtx_model.specs.Log.{CommitRecord, first_of, log_has, record_of, without_first_of}
use Rattle.outside.specs.Faults.{Rose}
use Rattle.coordinator_log.specs.Crash.{AllHold, AllHoldEither}
use Rattle.coordinator_log.specs.Slots.{open_records}
use Rattle.coordinator_log.specs.State.{LogState}
use Rattle.coordinator_log.specs.declared.refusal.LogRefusal.{LogRefusal}
use Rattle.coordinator_log.specs.declared.refusal.LogRefusal.TheVariants.{NoSuch, Stopped, StoppedNow}
use Rattle.log_epochs.specs.Beginning.{AllAre}
use Rattle.transactions.specs.Keeping.{AreNumbered}
use Rattle.transactions.specs.Recovering.{FreesLog, NoneIsFound, OnlyFrees, has_place, is_found, is_passed, may_be_freed, without_each}
use Rattle.transactions.specs.State.{LiveState}
use Rattle.log_epochs.proofs.Records.{length-without}
use Rattle.transactions.proofs.Lasting.{among-without, among_both, found-without, others-without}

-- some element of a list that was made by a function passes
pub list_any-map : {X Y : Type 0} (p : X → Bool) (h : Y → X) (ys : List Y) → list_any p (map h ys) ≡ list_any (λ y. p (h y)) ys
list_any-map p h [] = refl
list_any-map p h (y ∷ ys) = ap (λ b. p (h y) || b) (list_any-map p h ys)

-- the transactions stand at places from this one on
abbrev StandFrom : ℕ → List LiveState → Type 0
StandFrom k xs = (i : ℕ) (x : LiveState) → slice_get xs i ≡ Some x → x.number.t.value ≡ k + i + 1

-- what stands at a place is the transaction with this identifier
abbrev pub is_its : ℕ → Option LiveState → Bool
is_its id (Some x) = identifier_of_id x.number == id
is_its id None = false

-- one at another place isn't
not_its : (t : TxId) (x : LiveState) → x.number.t.value ≢ t.t.value → (identifier_of_id x.number == identifier_of_id t) ≡ false
not_its t x n = false_from_ne_true (identifier_of_id x.number == identifier_of_id t)
    (λ e. n (ap (λ (u : TxId). u.t.value) (same_id x.number t (let same = eqb-true (identifier_of_id x.number) (identifier_of_id t) e in omega (arith, same)))))

-- the places from the second on
later : (k : ℕ) (x : LiveState) (xs : List LiveState) → StandFrom k (x ∷ xs) → StandFrom (k + 1) xs
later k x xs from i y there = let at = from (suc i) y there in omega (arith, at)

-- none of these has a place before all of them
absent : (t : TxId) (k : ℕ) (xs : List LiveState) → StandFrom k xs → t.t.value ≤ k → has_place (identifier_of_id t) xs ≡ false
absent t k [] from low = refl
absent t k (x ∷ xs) from low = let at = from 0 x refl in
    rw (not_its t x (λ e. omega (arith, at, e, low))) (absent t (k + 1) xs (later k x xs from) (omega (arith, low)))

-- a transaction has a place where it stands at its own
placed : (t : TxId) (k j : ℕ) (xs : List LiveState) → StandFrom k xs → t.t.value ≡ k + j + 1 → has_place (identifier_of_id t) xs ≡ is_its (identifier_of_id t) (slice_get xs j)
placed t k j [] from at = refl
placed t k zero (x ∷ xs) from at = elim (cases_Bool (identifier_of_id x.number == identifier_of_id t)) [
  | inl its ↦ rw its refl
  | inr other ↦ rw other (absent t (k + 1) xs (later k x xs from) (omega (arith, at)))
]
placed t k (suc j) (x ∷ xs) from at = let first = from 0 x refl in
    rw (not_its t x (λ e. omega (arith, first, e, at))) (placed t (k + 1) j xs (later k x xs from) (omega (arith, at)))

pub has_its_place : (t : TxId) (id i : ℕ) (xs : List LiveState) → AreNumbered xs → identifier_of_id t ≡ id → i + 1 ≡ t.t.value → has_place id xs ≡ is_its id (slice_get xs i)
has_its_place t id i xs numbered named place =
    subst (λ (n : ℕ). has_place n xs ≡ is_its n (slice_get xs i)) named (placed t 0 i xs (λ j x there. let at = (numbered j x there).0 in omega (arith, at)) (omega (arith, place)))

-- no place is that of a transaction that has no identifier
pub has_no_place : (id : ℕ) (xs : List LiveState) → ((t : TxId) → identifier_of_id t ≢ id) → has_place id xs ≡ false
has_no_place id [] none = refl
has_no_place id (x ∷ xs) none = rw (false_from_ne_true (identifier_of_id x.number == id) (λ e. none x.number (eqb-true (identifier_of_id x.number) id e))) (has_no_place id xs none)

-- what was found is a record that may be freed
pub found_is : (ms : List RmNo) (xs : List LiveState) (o : Option CommitRecord) → is_found ms xs o ≡ true → (r : CommitRecord) × (o ≡ Some r) × (may_be_freed ms xs r ≡ true)
found_is ms xs (Some r) e = (r, refl, e)
found_is ms xs None e = absurd cc

-- nothing is gone
pub frees_none : (ms : List RmNo) (xs : List LiveState) (rs : List CommitRecord) → OnlyFrees ms xs rs rs
frees_none ms xs rs = record { kept = refl; found = λ id r there off. there; among = All-contains_itself rs }

-- one is gone
pub frees_one : (ms : List RmNo) (xs : List LiveState) (id : ℕ) (rs : List CommitRecord) → is_found ms xs (first_of id rs) ≡ true → OnlyFrees ms xs rs (without_first_of id rs)
frees_one ms xs id rs found =
    let r = found_is ms xs (first_of id rs) found in
    record { kept = others-without (may_be_freed ms xs) id rs r.0 r.1 r.2; found = found-without (may_be_freed ms xs) id rs r.0 r.1 r.2; among = among-without id rs }

-- some are gone, and then more
pub frees_both : (ms : List RmNo) (xs : List LiveState) (rs qs ps : List CommitRecord) → OnlyFrees ms xs rs qs → OnlyFrees ms xs qs ps → OnlyFrees ms xs rs ps
frees_both ms xs rs qs ps first second = record { kept = second.kept ∙ first.kept; found = λ id r there off. second.found id r (first.found id r there off) off; among = among_both rs qs ps first.among second.among }

-- each image has what is left of what was left
pub images_both : (image : List ℕ → Type 0) (ms : List RmNo) (xs : List LiveState) (rs qs : List CommitRecord) → OnlyFrees ms xs rs qs → AllAre image (OnlyFrees ms xs qs) → AllAre image (OnlyFrees ms xs rs)
images_both image ms xs rs qs first all c left = more (log_has c) (all c left)
  where
    more : (z : Result (List CommitRecord) ℕ) → IsOkAnd z (OnlyFrees ms xs qs) → IsOkAnd z (OnlyFrees ms xs rs)
    more (Ok ps) second = frees_both ms xs rs qs ps first second
    more (Err e) second = absurd second

-- there is one less
pub fewer : (ms : List RmNo) (xs : List LiveState) (id : ℕ) (rs : List CommitRecord) → is_found ms xs (first_of id rs) ≡ true → length (without_first_of id rs) < length rs
fewer ms xs id rs found = let r = found_is ms xs (first_of id rs) found in length-without id rs r.0 r.1

-- where each slot was passed, no record is found that may be freed
pub none_found : (ms : List RmNo) (xs : List LiveState) (rs : List CommitRecord) (ss : List (Option LogRecord))
    → ((k : ℕ) → k < length ss → is_passed ms xs rs (option_map record_of (get_or ss k None)) ≡ true)
    → (id : ℕ) → first_of id (filter_map (option_map record_of) ss) ≡ first_of id rs → is_found ms xs (first_of id rs) ≡ false
none_found ms xs rs [] passed id e = ap (is_found ms xs) (sym e)
none_found ms xs rs (None ∷ ss) passed id e = none_found ms xs rs ss (λ k lt. passed (suc k) (omega arith)) id e
none_found ms xs rs (Some r ∷ ss) passed id e = elim (cases_Bool (eqb r.id id)) [
  | inl same ↦
      let first : Some (record_of r) ≡ first_of id rs = rw same at e in
      let here : is_passed ms xs rs (Some (record_of r)) ≡ true = passed 0 (omega arith) in
      false_from_ne_true (is_found ms xs (first_of id rs))
      (λ yes. both_ways (is_passed ms xs rs (Some (record_of r)))
      (not_from_true _ (and_from (may_be_freed ms xs (record_of r)) (is_found ms xs (first_of r.id rs)) (ap (is_found ms xs) first ∙ yes) (ap (λ (j : ℕ). is_found ms xs (first_of j rs)) (eqb-true r.id id same) ∙ yes)))
      here)
  | inr other ↦ none_found ms xs rs ss (λ k lt. passed (suc k) (omega arith)) id (rw other at e)
]

-- what was read has these records
holds : (P : List CommitRecord → Type 0) (rs : List CommitRecord) (z : Result (List CommitRecord) ℕ) → P rs → z ≡ Ok rs → IsOkAnd z P
holds P rs z p e = subst (λ (y : Result (List CommitRecord) ℕ). IsOkAnd y P) (sym e) p

-- each image has these records
pub all_are : (image : List ℕ → Type 0) (P : List CommitRecord → Type 0) (rs : List CommitRecord) → AllHold image rs → P rs → AllAre image P
all_are image P rs all p c left = holds P rs (log_has c) p (all c left)

-- each image has the first or the second
pub either_are : (image : List ℕ → Type 0) (P : List CommitRecord → Type 0) (rs qs : List CommitRecord) → AllHoldEither image rs qs → P rs → P qs → AllAre image P
either_are image P rs qs all p q c left = elim (all c left) [ inl e ↦ holds P rs (log_has c) p e | inr e ↦ holds P qs (log_has c) q e ]

-- a free that is refused leaves the slots
slots_same : {D : Type 0} (id : ℕ) (old new : LogState D) (e : LogRefusal) → (e ≡ Stopped) ⊎ ((e ≡ NoSuch id) ⊎ (e ≡ StoppedNow)) → (e ≢ StoppedNow → new ≡ old)
    → (IsErrOf {T = Unit {0}} (Err e) StoppedNow → IsFalse new.is_up × (new.slots ≡ old.slots)) → new.slots ≡ old.slots
slots_same {D} id old new e only unchanged stopped = elim only [
  | inl is ↦ ap (λ (l : LogState D). l.slots) (unchanged (λ now. absurd cc))
  | inr other ↦ elim other [
    | inl is ↦ ap (λ (l : LogState D). l.slots) (unchanged (λ now. absurd cc))
    | inr now ↦ (stopped (ap (λ (x : LogRefusal). Err x) now)).1
  ]
]

-- Whatever a free answers, only records that may be freed are gone.
pub after_free : {D : Type 0} (ms : List RmNo) (xs : List LiveState) (id : ℕ) (old new : LogState D) (result : Result (Unit {0}) LogRefusal) → is_found ms xs (first_of id (open_records old.slots)) ≡ true
    → OnOk result (open_records new.slots ≡ without_first_of id (open_records old.slots))
    → IfErr result (λ e. (e ≡ Stopped) ⊎ ((e ≡ NoSuch id) ⊎ (e ≡ StoppedNow))) → IfErr result (λ e. e ≢ StoppedNow → new ≡ old)
    → (IsErrOf result StoppedNow → IsFalse new.is_up × (new.slots ≡ old.slots)) → OnlyFrees ms xs (open_records old.slots) (open_records new.slots)
after_free ms xs id old new (Ok x) found records only unchanged stopped = rw records (frees_one ms xs id (open_records old.slots) found)
after_free ms xs id old new (Err e) found records only unchanged stopped =
    subst (λ (ss : List (Option CommitRecord)). OnlyFrees ms xs (open_records old.slots) (open_records ss)) (sym (slots_same id old new e only unchanged stopped))
    (frees_none ms xs (open_records old.slots))

-- so each image has what is left of what the log has then
pub left_free : {D : Type 0} (ms : List RmNo) (xs : List LiveState) (id : ℕ) (image : List ℕ → Type 0) (old new : LogState D) (result : Result (Unit {0}) LogRefusal)
    → is_found ms xs (first_of id (open_records old.slots)) ≡ true → OnOk result (AllHold image (open_records new.slots))
    → AllHoldEither image (open_records old.slots) (without_first_of id (open_records old.slots)) → IfErr result (λ e. (e ≡ Stopped) ⊎ ((e ≡ NoSuch id) ⊎ (e ≡ StoppedNow)))
    → IfErr result (λ e. e ≢ StoppedNow → new ≡ old) → (IsErrOf result StoppedNow → IsFalse new.is_up × (new.slots ≡ old.slots)) → AllAre image (OnlyFrees ms xs (open_records new.slots))
left_free ms xs id image old new (Ok x) found held either only unchanged stopped = all_are image (OnlyFrees ms xs (open_records new.slots)) (open_records new.slots) held (frees_none ms xs (open_records new.slots))
left_free ms xs id image old new (Err e) found held either only unchanged stopped =
    let rs = open_records old.slots in
    subst (λ (ss : List (Option CommitRecord)). AllAre image (OnlyFrees ms xs (open_records ss))) (sym (slots_same id old new e only unchanged stopped))
    (either_are image (OnlyFrees ms xs rs) rs (without_first_of id rs) either (frees_none ms xs rs) (frees_one ms xs id rs found))

-- the open slots are no more than all
pub few_open : (ss : List (Option LogRecord)) (rs : List CommitRecord) → filter_map (option_map record_of) ss ≡ rs → length rs ≤ length ss
few_open ss rs is = subst (λ (l : List CommitRecord). length l ≤ length ss) is (few ss)
  where
    few : (ss : List (Option LogRecord)) → length (filter_map (option_map record_of) ss) ≤ length ss
    few [] = omega arith
    few (None ∷ ss) = let le = few ss in omega (arith, le)
    few (Some r ∷ ss) = let le = few ss in omega (arith, le)

-- one more is gone
pub without_more : (ids : List ℕ) (id : ℕ) (rs : List CommitRecord) → without_each (ids ++ id ∷ []) rs ≡ without_first_of id (without_each ids rs)
without_more [] id rs = refl
without_more (j ∷ ids) id rs = without_more ids id (without_first_of j rs)

-- the freeing of records that failed
pub frees_failed : {D A E : Type 0} (honest : Bool) (image : D → List ℕ → Type 0) (faults : D → ℕ) (ms : List RmNo) (xs : List LiveState) (old new : LogState D) (z : Result A E) → IsErr z
    → OnlyFrees ms xs (open_records old.slots) (open_records new.slots) → (NoneIsFound ms xs (open_records old.slots) → ⊥) → (IsFalse old.is_up → new ≡ old)
    → (IsTrue honest → IsTrue old.is_up → AllAre (image new.disk) (OnlyFrees ms xs (open_records old.slots))) → IsFalse new.is_up
    → IsFalse old.is_up ⊎ (old.armed ≡ None → Rose (faults old.disk) (faults new.disk)) → faults old.disk ≤ faults new.disk
    → FreesLog honest image faults ms xs old new z
frees_failed honest image faults ms xs old new (Ok x) failed records some down images stopped cause grows = absurd cc
frees_failed honest image faults ms xs old new (Err e) failed records some down images stopped cause grows =
    record { records = records; freed = tt; nothing = λ none. absurd (some none); images = images; durable = λ h up. tt; up = tt; down = down; stopped = stopped; cause = cause; smooth = tt; grows = grows }

-- the freeing of records that was done
pub frees_done : {D A E : Type 0} (honest : Bool) (image : D → List ℕ → Type 0) (faults : D → ℕ) (ms : List RmNo) (xs : List LiveState) (old new : LogState D) (x : A)
    → OnlyFrees ms xs (open_records old.slots) (open_records new.slots) → NoneIsFound ms xs (open_records new.slots) → (NoneIsFound ms xs (open_records old.slots) → new ≡ old) → (IsFalse old.is_up → new ≡ old)
    → (IsTrue honest → IsTrue old.is_up → AllAre (image new.disk) (OnlyFrees ms xs (open_records old.slots))) → (IsTrue honest → IsTrue old.is_up → AllHold (image new.disk) (open_records new.slots))
    → new.is_up ≡ old.is_up → faults new.disk ≡ faults old.disk → FreesLog {D = D} honest image faults ms xs old new {A = A} {E = E} (Ok x)
frees_done honest image faults ms xs old new x records freed nothing down images durable up smooth =
    record { records = records; freed = freed; nothing = λ none. (refl, nothing none); images = images; durable = durable; up = up; down = down; stopped = tt; cause = tt; smooth = smooth; grows = omega (arith, smooth) }

-- what is found isn't missing
pub some_found : (ms : List RmNo) (xs : List LiveState) (id : ℕ) (rs : List CommitRecord) → is_found ms xs (first_of id rs) ≡ true → NoneIsFound ms xs rs → ⊥
some_found ms xs id rs found none = both_ways (is_found ms xs (first_of id rs)) (none id) found
