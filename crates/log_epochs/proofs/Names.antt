-- The identifiers of epochs, and the epochs of records.
use Rattle.std.proofs.Common.{◌≡◌, ◌≢◌, inl, inr, ℕ, ◌+◌, ◌^◌, ◌≤◌, true, false, ◌&&◌, leb, eqb, List, [], ◌∷◌, length, map, take, Option, Some, None, unwrap_or, ◌↔◌, refl, ap, sym, ◌∙◌, arith}
use Rattle.std.specs.Prelude.{IfSome, IsFalse}
use Rattle.std.proofs.lemmas.Bool.{and_parts, and_from, and_left, and_right, cases_Bool, eqb-true, eq-eqb, false_from_ne_true, le-leb, leb-true}
use Rattle.dtx_values.proofs.Ids.{number_is}
use Rattle.dtx_values.specs.RecoveryInfo.{pair_of}
use Rattle.dtx_values.specs.TxIds.{identifier_of_id, number_in}
use Rattle.dtx_values.specs.declared.number.EnlNo.{EnlNo}
use Rattle.dtx_values.specs.declared.number.RmNo.{RmNo}
use Rattle.dtx_values.specs.declared.record.LogRecord.{LogRecord}
use Rattle.dtx_values.specs.declared.tx_id.TxId.{TxId}
use Rattle.dtx_model.specs.Log.{CommitRecord, record_of}
use Rattle.dtx_model.specs.Outcome.{is_empty}
use Rattle.log_epochs.specs.Epochs.{epoch_named, epoch_of_record, epoch_record, identifier_of_epoch, is_epoch, is_epoch_record}

-- the identifier of an epoch names one from 1 to 2^32 - 1, and is its
pub epoch_is : (id : ℕ) → is_epoch id ≡ true → (1 ≤ epoch_named id) × (epoch_named id ≤ 4294967295) × (id ≡ identifier_of_epoch (epoch_named id))
unfolding is_epoch
epoch_is id e =
    let n = epoch_named id in
    let parts = and_parts (leb 1 n && leb n 4294967295) (eqb id (identifier_of_epoch n)) e in
    let range = and_parts (leb 1 n) (leb n 4294967295) parts.0 in
    (leb-true 1 n range.0, leb-true n 4294967295 range.1, eqb-true id (identifier_of_epoch n) parts.1)

-- the epoch that an epoch's identifier names
pub named_again : (n : ℕ) → epoch_named (identifier_of_epoch n) ≡ n
named_again n = omega arith

-- each of these has an identifier
pub epoch_again : (n : ℕ) → 1 ≤ n → n ≤ 4294967295 → is_epoch (identifier_of_epoch n) ≡ true
unfolding is_epoch
epoch_again n low high =
    let m = epoch_named (identifier_of_epoch n) in
    let is : m ≡ n = named_again n in
    and_from (leb 1 m && leb m 4294967295) (eqb (identifier_of_epoch n) (identifier_of_epoch m))
    (and_from (leb 1 m) (leb m 4294967295) (le-leb 1 m (omega arith)) (le-leb m 4294967295 (omega arith)))
    (eq-eqb (identifier_of_epoch n) (identifier_of_epoch m) (omega arith))

-- it is that of the number 0 in the epoch
pub first_number : (n : ℕ) → identifier_of_epoch n ≡ 2 ^ 64 + number_in n 0
first_number n = let is = number_is n 0 in omega (arith, is)

-- no identifier of a transaction is that of an epoch
pub other_identifier : (x : TxId) (n : ℕ) → identifier_of_id x ≢ identifier_of_epoch n
other_identifier x n e =
    let is = number_is x.epoch x.t.value in
    let low = x.t.in_range.0 in
    let high = x.t.in_range.1 in
    omega (arith, e, is, low, high)

-- nor tests as one
pub no_epoch : (x : TxId) → is_epoch (identifier_of_id x) ≡ false
no_epoch x = false_from_ne_true (is_epoch (identifier_of_id x)) (λ e. other_identifier x (epoch_named (identifier_of_id x)) (epoch_is (identifier_of_id x) e).2)

-- nor is a record of a transaction that of an epoch
pub no_record : (x : TxId) (r : CommitRecord) → r.id ≡ identifier_of_id x → is_epoch_record r ≡ false
no_record x r e = and_left (is_epoch r.id) (is_empty r.enlistments) (ap is_epoch e ∙ no_epoch x)

-- a list without an element
is_nil : {X : Type 0} (xs : List X) → is_empty xs ≡ true → xs ≡ []
is_nil [] e = refl
is_nil (x ∷ xs) e = absurd cc

-- a record of an epoch is that of the epoch that it is of
pub record_is : (r : CommitRecord) → is_epoch_record r ≡ true → (1 ≤ epoch_of_record r) × (r ≡ epoch_record (epoch_of_record r))
unfolding epoch_of_record
record_is r e =
    let parts = and_parts (is_epoch r.id) (is_empty r.enlistments) e in
    let id = epoch_is r.id parts.0 in
    let none = is_nil r.enlistments parts.1 in
    rw e (id.0, λ i. record { id = id.2 i; enlistments = none i })

-- the record of an epoch is of this one
pub record_again : (n : ℕ) → 1 ≤ n → n ≤ 4294967295 → (is_epoch_record (epoch_record n) ≡ true) × (epoch_of_record (epoch_record n) ≡ n)
unfolding epoch_of_record
record_again n low high =
    let test = and_from (is_epoch (identifier_of_epoch n)) true (epoch_again n low high) refl in
    (test, rw test (named_again n))

-- any other record is of epoch 0
pub of_none : (r : CommitRecord) → is_epoch_record r ≡ false → epoch_of_record r ≡ 0
unfolding epoch_of_record
of_none r e = rw e refl

-- a record without enlistments, whose epoch was told by its identifier
pub told : (r : CommitRecord) (o : Option ℕ) → r.enlistments ≡ [] → IfSome o (λ n. (1 ≤ n) × (r.id ≡ identifier_of_epoch n)) → ((o ≡ None) ↔ IsFalse (is_epoch r.id)) → unwrap_or o 0 ≡ epoch_of_record r
told r None none some is = sym (of_none r (and_left (is_epoch r.id) (is_empty r.enlistments) (is.0 refl)))
told r (Some n) none some is = elim (cases_Bool (is_epoch r.id)) [
  | inl epoch ↦
      let record_so = record_is r (and_from (is_epoch r.id) (is_empty r.enlistments) epoch (ap is_empty none)) in
      let id : r.id ≡ identifier_of_epoch (epoch_of_record r) = ap (λ (x : CommitRecord). x.id) record_so.1 in
      let named = some.1 in
      omega (arith, id, named)
  | inr other ↦ absurd (let h = is.1 other in cc)
]

-- a record with enlistments is of no epoch
pub none_told : (r : CommitRecord) → (length r.enlistments ≡ 0 → ⊥) → 0 ≡ epoch_of_record r
none_told r some = sym (of_none r (and_right (is_epoch r.id) (is_empty r.enlistments) (false_from_ne_true (is_empty r.enlistments) (λ e. some (ap length (is_nil r.enlistments e))))))

-- the record that is made of an epoch
pub made : (r : LogRecord) (n : ℕ) → r.id ≡ identifier_of_epoch n → r.count ≡ 0 → record_of r ≡ epoch_record n
made r n id none = λ i. record { id = id i; enlistments = map pair_of (take (none i) r.durables) }

-- no pairs
pub no_pairs : (ps : List (RmNo × EnlNo)) → length ps ≡ 0 → map pair_of ps ≡ []
no_pairs [] e = refl
no_pairs (p ∷ ps) e = absurd (omega arith)
