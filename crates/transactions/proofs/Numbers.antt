-- What the beginning of an epoch makes of the log.
use Rattle.std.proofs.Common.{ℕ, Bool, true, false, ◌≡◌, ◌≢◌, ◌≤◌, ◌<◌, ◌+◌, ◌*◌, ◌-◌, ◌^◌, ◌⊎◌, ◌↔◌, ◌∙◌, Result, Err, List, None, IfErr, refl, ap, subst, sym, inl, inr}
use Rattle.std.specs.Prelude.{IsErrOf, IsFalse, IsTrue, slice_get}
use Rattle.dtx_values.specs.TxIds.{number_of}
use Rattle.dtx_values.specs.declared.number.TxNo.{TxNo}
use Rattle.dtx_values.specs.declared.tx_id.TxId.{TxId}
use Rattle.dtx_values.proofs.Ids.{number_is}
use Rattle.coordinator_log.specs.Slots.{lowest_closed, open_records}
use Rattle.coordinator_log.specs.State.{LogState}
use Rattle.coordinator_log.specs.declared.refusal.LogRefusal.{LogRefusal}
use Rattle.coordinator_log.specs.declared.refusal.LogRefusal.TheVariants.{Full, NoSuch, Stopped, StoppedNow}
use Rattle.log_epochs.specs.Beginning.{AllAre, IsSameOrNext}
use Rattle.log_epochs.specs.Epochs.{epoch_of, identifier_of_epoch}
use Rattle.outside.specs.Faults.{Rose}
use Rattle.transactions.specs.Numbering.{AreNone, MayNotBegin, MayNotNumber, NumbersLog, number_refusal}
use Rattle.transactions.specs.Slots.{is_vacant}
use Rattle.transactions.specs.State.{LiveState}
use Rattle.transactions.specs.declared.error.TxError.{TxError}
use Rattle.transactions.specs.declared.error.TxError.TheVariants.{LogFull, LogStopped, Many, Memory, NoEpoch, Refused, Waits}
use Rattle.transactions.proofs.Untouched.{keeps_next}

-- where the log was down it is as it was
pub down_same : {D : Type 0} (z : Result ℕ LogRefusal) (from to : LogState D) → (IsErrOf z Stopped ↔ IsFalse from.is_up) → IfErr z (λ e. e ≢ StoppedNow → to ≡ from) → IsFalse from.is_up → to ≡ from
down_same z from to stopped unchanged off = (subst (λ (y : Result ℕ LogRefusal). IfErr y (λ e. e ≢ StoppedNow → to ≡ from)) (stopped.1 off) unchanged) never
  where
    never : Stopped ≡ StoppedNow → ⊥
    never q = cc

-- so it is up only where it was
pub up_before : {D : Type 0} (from to : LogState D) → (IsFalse from.is_up → to ≡ from) → IsTrue to.is_up → IsTrue from.is_up
up_before from to down up = by from.is_up refl
  where
    by : (b : Bool) → from.is_up ≡ b → from.is_up ≡ true
    by true is = is
    by false off = sym (ap (λ (l : LogState _). l.is_up) (down off)) ∙ up

-- the other refusals are none of a log that was stopped now
never_stopped : Stopped ≡ StoppedNow → ⊥
never_stopped q = cc

never_none : (id : ℕ) → NoSuch id ≡ StoppedNow → ⊥
never_none id q = cc

never_full : (n : ℕ) → Full n ≡ StoppedNow → ⊥
never_full n q = cc

-- why no epoch began
pub may_not_number : {D : Type 0} (faults : D → ℕ) (from to : LogState D) (e : LogRefusal) → (IsErrOf {T = ℕ} (Err e) Stopped ↔ IsFalse from.is_up)
    → (IsErrOf {T = ℕ} (Err e) (NoSuch (identifier_of_epoch (2 ^ 32))) ↔ (IsTrue from.is_up × (epoch_of (open_records from.slots) ≡ 2 ^ 32 - 1)))
    → (IsErrOf {T = ℕ} (Err e) (Full 1024) ↔ (IsTrue from.is_up × (epoch_of (open_records from.slots) < 2 ^ 32 - 1) × (lowest_closed from.slots ≡ 1024)))
    → (e ≡ Stopped) ⊎ ((e ≡ NoSuch (identifier_of_epoch (2 ^ 32))) ⊎ ((e ≡ Full 1024) ⊎ (e ≡ StoppedNow))) → (e ≢ StoppedNow → to ≡ from)
    → (IsErrOf {T = ℕ} (Err e) StoppedNow → IsFalse to.is_up) → (IsErrOf {T = ℕ} (Err e) StoppedNow → from.armed ≡ None → Rose (faults from.disk) (faults to.disk)) → from.armed ≡ None
    → MayNotNumber faults from to (number_refusal e)
may_not_number {D} faults from to e stopped last full only unchanged stopped_now cause unarmed = by only
  where
    said : (k : LogRefusal) → e ≡ k → ◌≡◌ {A = Result ℕ LogRefusal} (Err e) (Err k)
    said k q = ap (λ (x : LogRefusal). Err x) q

    so : (k : LogRefusal) → e ≡ k → MayNotNumber faults from to (number_refusal k) → MayNotNumber faults from to (number_refusal e)
    so k q m = subst (λ (x : LogRefusal). MayNotNumber faults from to (number_refusal x)) (sym q) m

    same : (k : LogRefusal) → e ≡ k → (k ≡ StoppedNow → ⊥) → to ≡ from
    same k q n = unchanged (λ r. n (sym q ∙ r))

    by : (e ≡ Stopped) ⊎ ((e ≡ NoSuch (identifier_of_epoch (2 ^ 32))) ⊎ ((e ≡ Full 1024) ⊎ (e ≡ StoppedNow))) → MayNotNumber faults from to (number_refusal e)
    by (inl q) = let off = stopped.0 (said Stopped q) in so Stopped q (ap (λ (l : LogState D). l.is_up) (same Stopped q never_stopped) ∙ off, inl off)
    by (inr (inl q)) =
        let k = NoSuch (identifier_of_epoch (2 ^ 32)) in
        so k q ((last.0 (said k q)).1, same k q (never_none (identifier_of_epoch (2 ^ 32))))
    by (inr (inr (inl q))) = so (Full 1024) q ((full.0 (said (Full 1024) q)).2, same (Full 1024) q (never_full 1024))
    by (inr (inr (inr q))) = so StoppedNow q (stopped_now (said StoppedNow q), inr (cause (said StoppedNow q) unarmed))

-- what the beginning of an epoch does to the log
pub numbers_log : {D : Type 0} (honest : Bool) (image : D → List ℕ → Type 0) (faults : D → ℕ) (z : Result ℕ LogRefusal) (from to : LogState D) → IsSameOrNext (open_records from.slots) (open_records to.slots)
    → (IsTrue honest → IsTrue from.is_up → AllAre (image to.disk) (IsSameOrNext (open_records from.slots))) → (IsErrOf z Stopped ↔ IsFalse from.is_up)
    → IfErr z (λ e. e ≢ StoppedNow → to ≡ from) → faults from.disk ≤ faults to.disk → NumbersLog honest image faults from to
numbers_log honest image faults z from to records imaged stopped unchanged grows =
    let down = down_same z from to stopped unchanged in
    record {
      records = records;
      imaged = λ is up c i. inr (imaged is up c i);
      still = up_before from to down;
      grows = grows;
      untouched = λ is. keeps_next image from to records (imaged is) down;
    }

-- why no transaction began, where no epoch did
pub may_not_begin : {D : Type 0} (faults : D → ℕ) (from to : LogState D) (xs : List LiveState) (e : TxError) → MayNotNumber faults from to e → MayNotBegin faults from to xs e
may_not_begin faults from to xs Memory k = tt
may_not_begin faults from to xs Many k = absurd k
may_not_begin faults from to xs LogFull k = k
may_not_begin faults from to xs LogStopped k = k
may_not_begin faults from to xs NoEpoch k = k
may_not_begin faults from to xs Waits k = absurd k
may_not_begin faults from to xs (Refused a) k = absurd k

-- a number for good, by its epoch
pub number_at : (t : TxId) (epoch : ℕ) → t.epoch ≡ epoch → number_of t ≡ 65536 * epoch + t.t.value
number_at t epoch e = number_is t.epoch t.t.value ∙ ap (λ n. 65536 * n + t.t.value) e

-- no number of an epoch is left where each place has a transaction
pub none_vacant : {D : Type 0} (log : LogState D) (epoch : ℕ) (xs : List LiveState) → ((p : TxNo) → is_vacant (slice_get xs (p.value - 1)) ≡ false) → AreNone log epoch 0 xs
none_vacant log epoch xs used p low high = inl (used p)
