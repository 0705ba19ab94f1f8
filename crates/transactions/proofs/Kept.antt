-- What a manager keeps while records are freed.
use Rattle.std.specs.Prelude.{All, Contains, IsFalse, IsTrue}
use Rattle.std.proofs.Common.{◌≡◌, ◌==◌, ◌∙◌, ℕ, Bool, true, false, ◌&&◌, not, ◌<◌, List, Option, Some, None, slice_get, refl, ap, arith, subst, sym}
use Rattle.std.proofs.lemmas.Bool.Decides.{nat_tests}
use Rattle.std.proofs.lemmas.List.Elements.{All-contains}
use Rattle.dtx_values.specs.TxIds.{identifier_of_id, number_of}
use Rattle.dtx_values.specs.declared.tx_id.TxId.{TxId}
use Rattle.dtx_values.specs.declared.number.RmNo.{RmNo}
use Rattle.dtx_model.specs.Log.{CommitRecord, first_of}
use Rattle.dtx_model.proofs.Bools.{and_left, not_true}
use Rattle.coordinator_log.specs.Slots.{open_records}
use Rattle.coordinator_log.specs.State.{LogState}
use Rattle.log_epochs.specs.Beginning.{AllAre}
use Rattle.log_epochs.specs.Epochs.{epoch_of, epoch_of_record, is_epoch_record}
use Rattle.tx_world.specs.AtLog.{AreFit, Fits, id_of}
use Rattle.tx_world.proofs.Fitting.{fits_same}
use Rattle.transactions.specs.Keeping.{AreNumbered, FitsAll, IsKept}
use Rattle.transactions.specs.Numbering.{AreFrom, IsRecorded, IsUpTo}
use Rattle.transactions.specs.Recovering.{OnlyFrees, has_place, is_covered, may_be_freed}
use Rattle.transactions.specs.State.{LiveState}
use Rattle.transactions.proofs.Covering.{first_there, none_there}
use Rattle.transactions.proofs.Fitted.{all_more_are}
use Rattle.transactions.proofs.Freeing.{has_its_place, is_its}
use Rattle.transactions.proofs.Lasting.{epoch_same, same_of}
use Rattle.transactions.proofs.Numbers.{up_before}
use Rattle.transactions.proofs.Recorded.{all_more}

-- each transaction of a manager has a place
stands : (xs : List LiveState) (i : ℕ) (x : LiveState) → AreNumbered xs → slice_get xs i ≡ Some x → has_place (id_of x.tx) xs ≡ true
stands xs i x numbered there =
    let own : x.tx.transaction ≡ x.number = (numbered i x there).1 in
    let id : identifier_of_id x.number ≡ id_of x.tx = ap identifier_of_id (sym own) in
    has_its_place x.number (id_of x.tx) i xs numbered id (sym (numbered i x there).0) ∙ (ap (is_its (id_of x.tx)) there ∙ (ap (λ n. n == id_of x.tx) id ∙ itself (id_of x.tx)))
  where
    itself : (n : ℕ) → (n == n) ≡ true
    itself n = grind (arith, nat_tests)

-- so no record of its identifier may be freed
not_freed : (ms : List RmNo) (xs : List LiveState) (id : ℕ) (r : CommitRecord) → has_place id xs ≡ true → r.id ≡ id → may_be_freed ms xs r ≡ false
not_freed ms xs id r has named = by (not (is_epoch_record r)) (has_place r.id xs) (is_covered ms r) (ap (λ n. has_place n xs) named ∙ has)
  where
    by : (a b c : Bool) → b ≡ true → (a && not b && c) ≡ false
    by true true c e = refl
    by false true c e = refl
    by a false c e = absurd cc

-- a record that may be freed is of no epoch
no_epoch : (ms : List RmNo) (xs : List LiveState) (r : CommitRecord) → may_be_freed ms xs r ≡ true → epoch_of_record r ≡ 0
unfolding epoch_of_record
no_epoch ms xs r may =
    let one = and_left (not (is_epoch_record r) && not (has_place r.id xs)) (is_covered ms r) may in
    let none : is_epoch_record r ≡ false = not_true (is_epoch_record r) (and_left (not (is_epoch_record r)) (not (has_place r.id xs)) one) in
    rw none refl

-- where no record is found under an identifier, none is in a part of the records
none_more : (id : ℕ) (rs qs : List CommitRecord) → first_of id rs ≡ None → All (Contains rs) qs → first_of id qs ≡ None
none_more id rs qs none among = by (first_of id qs) refl
  where
    by : (o : Option CommitRecord) → first_of id qs ≡ o → first_of id qs ≡ None
    by None is = is
    by (Some r) is = let at = first_there id qs r is in absurd (none_there id rs r none (All-contains (Contains rs) qs r among at.0) at.1)

-- The log fits all transactions still, and so do its images.
pub fits_freed : {D : Type 0} (image : D → List ℕ → Type 0) (ms : List RmNo) (from to : LogState D) (xs : List LiveState) (last : ℕ) → AreNumbered xs
    → OnlyFrees ms xs (open_records from.slots) (open_records to.slots) → (IsTrue from.is_up → AllAre (image to.disk) (OnlyFrees ms xs (open_records from.slots)))
    → (IsTrue from.is_up → AllAre (image to.disk) (OnlyFrees ms xs (open_records to.slots))) → (IsFalse from.is_up → to ≡ from) → FitsAll image from xs last → FitsAll image to xs last
fits_freed {D} image ms from to xs last numbered frees images left down all = record {
  fits = λ up i x there. still (open_records to.slots) frees i x there (up_before from to down up);
  imaged = imaged from.is_up refl;
  upto = all.upto;
  unknown = unknown from.is_up refl;
}
  where
    still : (rs : List CommitRecord) → OnlyFrees ms xs (open_records from.slots) rs → (i : ℕ) (x : LiveState) → slice_get xs i ≡ Some x → IsTrue from.is_up → Fits x.tx rs
    still rs freed i x there up =
        fits_same x.tx (open_records from.slots) rs
        (same_of (may_be_freed ms xs) (id_of x.tx) (open_records from.slots) rs (λ r named. not_freed ms xs (id_of x.tx) r (stands xs i x numbered there) named) freed.kept)
        (all.fits up i x there)

    imaged : (b : Bool) → from.is_up ≡ b → (i : ℕ) (x : LiveState) → slice_get xs i ≡ Some x → AreFit (image to.disk) (Fits x.tx)
    imaged true up i x there = all_more_are (image to.disk) (OnlyFrees ms xs (open_records from.slots)) (Fits x.tx) (λ rs freed. still rs freed i x there up) (images up)
    imaged false off i x there = subst (λ (l : LogState D). AreFit (image l.disk) (Fits x.tx)) (sym (down off)) (all.imaged i x there)

    unknown : (b : Bool) → from.is_up ≡ b → (t : TxId) → last < number_of t → first_of (identifier_of_id t) (open_records to.slots) ≡ None → AreFit (image to.disk) (λ rs. first_of (identifier_of_id t) rs ≡ None)
    unknown true up t above none =
        let id = identifier_of_id t in
        all_more_are (image to.disk) (OnlyFrees ms xs (open_records to.slots)) (λ rs. first_of id rs ≡ None) (λ rs freed. none_more id (open_records to.slots) rs none freed.among) (left up)
    unknown false off t above none =
        let id = identifier_of_id t in
        subst (λ (l : LogState D). AreFit (image l.disk) (λ rs. first_of id rs ≡ None)) (sym (down off)) (all.unknown t above (subst (λ (l : LogState D). first_of id (open_records l.slots) ≡ None) (down off) none))

-- a number is up to the epoch of what is left
up_to_left : (ms : List RmNo) (xs : List LiveState) (n : ℕ) (rs qs : List CommitRecord) → OnlyFrees ms xs rs qs → IsUpTo n rs → IsUpTo n qs
up_to_left ms xs n rs qs frees up =
    let same : epoch_of qs ≡ epoch_of rs = epoch_same (may_be_freed ms xs) rs qs (no_epoch ms xs) frees.kept in
    omega (arith, same, up)

-- The log recorded the epoch of a number still.
pub recorded_freed : {D : Type 0} (honest : Bool) (image : D → List ℕ → Type 0) (ms : List RmNo) (xs : List LiveState) (from to : LogState D) (n : ℕ)
    → OnlyFrees ms xs (open_records from.slots) (open_records to.slots) → (IsTrue honest → IsTrue from.is_up → AllAre (image to.disk) (OnlyFrees ms xs (open_records from.slots)))
    → (IsFalse from.is_up → to ≡ from) → IsRecorded honest image from n → IsRecorded honest image to n
recorded_freed honest image ms xs from to n frees images down was = record {
  held = up_to_left ms xs n (open_records from.slots) (open_records to.slots) frees was.held;
  imaged = λ is. by is from.is_up refl;
}
  where
    by : IsTrue honest → (b : Bool) → from.is_up ≡ b → AreFrom n (image to.disk)
    by is true up = all_more (OnlyFrees ms xs (open_records from.slots)) (IsUpTo n) (image to.disk) (λ qs left. up_to_left ms xs n (open_records from.slots) qs left was.held) (images is up)
    by is false off = subst (λ (l : LogState _). AreFrom n (image l.disk)) (sym (down off)) (was.imaged is)

-- So a manager keeps what it is to keep.
pub kept_freed : {D : Type 0} (honest : Bool) (image : D → List ℕ → Type 0) (ms : List RmNo) (xs : List LiveState) (from to : LogState D) (n : ℕ)
    → OnlyFrees ms xs (open_records from.slots) (open_records to.slots) → (IsTrue honest → IsTrue from.is_up → AllAre (image to.disk) (OnlyFrees ms xs (open_records from.slots)))
    → (IsTrue honest → IsTrue from.is_up → AllAre (image to.disk) (OnlyFrees ms xs (open_records to.slots))) → (IsFalse from.is_up → to ≡ from) → (from.armed ≡ None → to.armed ≡ None)
    → IsKept honest image from xs n → IsKept honest image to xs n
kept_freed honest image ms xs from to n frees images left down unarmed was = (
  was.0,
  λ is. fits_freed image ms from to xs n was.0 frees (images is) (left is) down (was.1 is),
  unarmed was.2,
  recorded_freed honest image ms xs from to n frees images down was.3,
)
