-- The records of a log, with an epoch's record more or less.
use Rattle.std.specs.Prelude.{filter}
use Rattle.std.specs.List.{insert}
use Rattle.std.proofs.Common.{◌≡◌, inl, inr, ℕ, ◌+◌, ◌≤◌, ◌<◌, max, true, false, not, cond, eqb, List, [], ◌∷◌, ◌++◌, length, take, drop, Some, refl, ap, sym, ◌∙◌, arith}
use Rattle.std.proofs.lemmas.Bool.{and_left, cases_Bool, eqb-true}
use Rattle.std.proofs.lemmas.List.{take-append-drop}
use Rattle.dtx_model.specs.Log.{CommitRecord, first_of, is_record_of, without_first_of}
use Rattle.dtx_model.specs.Outcome.{is_empty}
use Rattle.log_epochs.proofs.Names.{record_again}
use Rattle.log_epochs.specs.Beginning.{IsAtEpoch}
use Rattle.log_epochs.specs.Epochs.{commits_of, epoch_of, epoch_of_record, epoch_record, is_epoch, is_epoch_record}

-- an epoch's record between others is none of the transactions'
commits_between : (xs ys : List CommitRecord) (r : CommitRecord) → is_epoch_record r ≡ true → commits_of (xs ++ r ∷ ys) ≡ commits_of (xs ++ ys)
commits_between [] ys r e = rw e refl
commits_between (x ∷ xs) ys r e = ap (λ (l : List CommitRecord). cond (not (is_epoch_record x)) (x ∷ l) l) (commits_between xs ys r e)

-- and counts for the epoch
epoch_between : (xs ys : List CommitRecord) (r : CommitRecord) → epoch_of (xs ++ r ∷ ys) ≡ max (epoch_of_record r) (epoch_of (xs ++ ys))
epoch_between [] ys r = refl
epoch_between (x ∷ xs) ys r = let h = epoch_between xs ys r in omega arith

-- the same of one that is put in
pub commits-insert : (rs : List CommitRecord) (k : ℕ) (r : CommitRecord) → is_epoch_record r ≡ true → commits_of (insert rs k r) ≡ commits_of rs
commits-insert rs k r e = commits_between (take k rs) (drop k rs) r e ∙ ap commits_of (take-append-drop k rs)

pub epoch-insert : (rs : List CommitRecord) (k : ℕ) (r : CommitRecord) → epoch_of (insert rs k r) ≡ max (epoch_of_record r) (epoch_of rs)
epoch-insert rs k r = epoch_between (take k rs) (drop k rs) r ∙ ap (λ (l : List CommitRecord). max (epoch_of_record r) (epoch_of l)) (take-append-drop k rs)

-- the first of an identifier has it
pub first_has : (id : ℕ) (rs : List CommitRecord) (r : CommitRecord) → first_of id rs ≡ Some r → r.id ≡ id
first_has id [] r e = absurd cc
first_has id (x ∷ rs) r e = elim (cases_Bool (eqb x.id id)) [
  | inl same ↦ let is : x ≡ r = let h = rw same at e in cc in ap (λ (y : CommitRecord). y.id) (sym is) ∙ eqb-true x.id id same
  | inr other ↦ first_has id rs r (rw other at e)
]

-- an epoch's record that is taken out was none of the transactions'
pub commits-without : (id : ℕ) (rs : List CommitRecord) (r : CommitRecord) → first_of id rs ≡ Some r → is_epoch_record r ≡ true → commits_of (without_first_of id rs) ≡ commits_of rs
commits-without id [] r e test = absurd cc
commits-without id (x ∷ rs) r e test = elim (cases_Bool (eqb x.id id)) [
  | inl same ↦ let is : x ≡ r = let h = rw same at e in cc in let tx : is_epoch_record x ≡ true = ap is_epoch_record is ∙ test in rw (same, tx) refl
  | inr other ↦ rw other (ap (λ (l : List CommitRecord). cond (not (is_epoch_record x)) (x ∷ l) l) (commits-without id rs r (rw other at e) test))
]

-- and counted for the epoch
pub epoch-without : (id : ℕ) (rs : List CommitRecord) (r : CommitRecord) → first_of id rs ≡ Some r → epoch_of rs ≡ max (epoch_of_record r) (epoch_of (without_first_of id rs))
epoch-without id [] r e = absurd cc
epoch-without id (x ∷ rs) r e = elim (cases_Bool (eqb x.id id)) [
  | inl same ↦ let is : x ≡ r = let h = rw same at e in cc in rw same (ap (λ (y : CommitRecord). max (epoch_of_record y) (epoch_of rs)) is)
  | inr other ↦ rw other (let h = epoch-without id rs r (rw other at e) in omega arith)
]

-- and there is one less
pub length-without : (id : ℕ) (rs : List CommitRecord) (r : CommitRecord) → first_of id rs ≡ Some r → length (without_first_of id rs) < length rs
length-without id [] r e = absurd cc
length-without id (x ∷ rs) r e = elim (cases_Bool (eqb x.id id)) [
  | inl same ↦ rw same (omega arith)
  | inr other ↦ rw other (let h = length-without id rs r (rw other at e) in omega arith)
]

-- the records of an identifier that is no epoch's are among those of the transactions
pub records_among : (id : ℕ) (rs : List CommitRecord) → is_epoch id ≡ false → filter (is_record_of id) (commits_of rs) ≡ filter (is_record_of id) rs
records_among id [] e = refl
records_among id (x ∷ rs) e = elim (cases_Bool (eqb x.id id)) [
  | inl same ↦ let none : is_epoch_record x ≡ false = and_left (is_epoch x.id) (is_empty x.enlistments) (ap is_epoch (eqb-true x.id id same) ∙ e) in
      rw (none, same) (ap (λ (l : List CommitRecord). x ∷ l) (records_among id rs e))
  | inr other ↦ elim (cases_Bool (is_epoch_record x)) [
    | inl epoch ↦ rw (epoch, other) (records_among id rs e)
    | inr none ↦ rw (none, other) (records_among id rs e)
  ]
]

-- so they are the same where those of the transactions are
pub same_records : (id : ℕ) (old new : List CommitRecord) → is_epoch id ≡ false → commits_of new ≡ commits_of old → filter (is_record_of id) new ≡ filter (is_record_of id) old
same_records id old new e same = sym (records_among id new e) ∙ ap (filter (is_record_of id)) same ∙ records_among id old e

-- the first record of an identifier is the first of all its records
first_among : (id : ℕ) (rs : List CommitRecord) → first_of id (filter (is_record_of id) rs) ≡ first_of id rs
first_among id [] = refl
first_among id (x ∷ rs) = elim (cases_Bool (eqb x.id id)) [ inl same ↦ rw same (rw same refl) | inr other ↦ rw other (first_among id rs) ]

-- so it is the same where all are
pub same_first : (id : ℕ) (old new : List CommitRecord) → filter (is_record_of id) new ≡ filter (is_record_of id) old → first_of id new ≡ first_of id old
same_first id old new same = sym (first_among id new) ∙ ap (first_of id) same ∙ first_among id old

-- the record of the next epoch makes it the log's
pub appended : (n k : ℕ) (rs : List CommitRecord) (r : CommitRecord) → r ≡ epoch_record n → n ≡ epoch_of rs + 1 → n ≤ 4294967295 → IsAtEpoch n rs (insert rs k r)
appended n k rs r is next high =
    let again = record_again n (omega arith) high in
    let counts = epoch-insert rs k r in
    let of : epoch_of_record r ≡ n = ap epoch_of_record is ∙ again.1 in
    record { commits = commits-insert rs k r (ap is_epoch_record is ∙ again.0); epoch = omega (arith, counts, of, next) }
