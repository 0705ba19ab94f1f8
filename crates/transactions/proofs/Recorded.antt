-- The log recorded the epoch of the last number, and goes on to have it.
use Rattle.std.proofs.Common.{ℕ, Bool, true, false, not, ◌≡◌, ◌≤◌, ◌+◌, ◌*◌, ◌⊎◌, ◌∙◌, max, List, [], ◌∷◌, Result, Ok, Err, IfOk, refl, ap, arith, subst, sym, inl, inr, if◌then◌else◌}
use Rattle.std.specs.Prelude.{IsOkAnd, IsTrue, IsFalse}
use Rattle.std.proofs.lemmas.Bool.{eqb-true}
use Rattle.dtx_model.specs.Log.{CommitRecord, is_record_of, log_has}
use Rattle.coordinator_log.specs.Crash.{AllHold}
use Rattle.coordinator_log.specs.Slots.{open_records}
use Rattle.coordinator_log.specs.State.{LogState}
use Rattle.log_epochs.specs.Beginning.{AllAre, IsSameOrNext}
use Rattle.log_epochs.specs.Epochs.{epoch_of, epoch_of_record, is_epoch}
use Rattle.world_parts.specs.AtLog.{of_others}
use Rattle.tx_world.specs.AtLog.{id_of}
use Rattle.tx_world.specs.Leaves.{Leaves}
use Rattle.tx_world.specs.State.{TxState}
use Rattle.transactions.specs.Numbering.{AreFrom, IsRecorded, IsUpTo, NumbersLog}

-- a record of an identifier that is no epoch's is of none
no_epoch : (id : ℕ) (r : CommitRecord) → is_epoch id ≡ false → is_record_of id r ≡ true → epoch_of_record r ≡ 0
unfolding epoch_of_record
no_epoch id r off is =
    let named : is_epoch r.id ≡ false = ap is_epoch (eqb-true r.id id is) ∙ off in
    rw named refl

-- so the epoch of some records is that of those of all others than one transaction
pub epoch_others : (id : ℕ) (rs : List CommitRecord) → is_epoch id ≡ false → epoch_of (of_others id rs) ≡ epoch_of rs
epoch_others id [] off = refl
epoch_others id (r ∷ rs) off = step (is_record_of id r) refl (epoch_others id rs off)
  where
    step : (b : Bool) → is_record_of id r ≡ b → epoch_of (of_others id rs) ≡ epoch_of rs
        → epoch_of (if not b then r ∷ of_others id rs else of_others id rs) ≡ max (epoch_of_record r) (epoch_of rs)
    step true q ih = let none = no_epoch id r off q in ih ∙ omega (arith, none)
    step false q ih = ap (λ n. max (epoch_of_record r) n) ih

-- and stays where those stay
pub epoch_kept : (id : ℕ) (rs qs : List CommitRecord) → is_epoch id ≡ false → of_others id qs ≡ of_others id rs → epoch_of qs ≡ epoch_of rs
epoch_kept id rs qs off same = sym (epoch_others id qs off) ∙ (ap epoch_of same ∙ epoch_others id rs off)

-- what was read is some records, of which this holds
pub ok_and : {A E : Type 0} (P : A → Type 0) (z : Result A E) → IsOkAnd z P → (x : A) × (z ≡ Ok x) × P x
ok_and P (Ok x) k = (x, refl, k)
ok_and P (Err e) k = absurd k

pub and_ok : {A E : Type 0} (P : A → Type 0) (z : Result A E) (x : A) → z ≡ Ok x → P x → IsOkAnd z P
and_ok P z x is k = subst (λ (y : Result _ _). IsOkAnd y P) (sym is) k

-- what holds of the records of each image, where this follows from it
pub all_more : (P Q : List CommitRecord → Type 0) (image : List ℕ → Type 0) → ((rs : List CommitRecord) → P rs → Q rs) → AllAre image P → AllAre image Q
all_more P Q image more all c i = let r = ok_and P (log_has c) (all c i) in and_ok Q (log_has c) r.0 r.1 (more r.0 r.2)

-- each image has these records, of which this holds
pub all_hold : (P : List CommitRecord → Type 0) (image : List ℕ → Type 0) (rs : List CommitRecord) → AllHold image rs → P rs → AllAre image P
all_hold P image rs all k c i = and_ok P (log_has c) rs (all c i) k

-- a number is up to an epoch that is the same
up_to_same : (n : ℕ) (rs qs : List CommitRecord) → epoch_of qs ≡ epoch_of rs → IsUpTo n rs → IsUpTo n qs
up_to_same n rs qs same k = omega (arith, same, k)

-- or the next
pub up_to_next : (n : ℕ) (rs qs : List CommitRecord) → IsSameOrNext rs qs → IsUpTo n rs → IsUpTo n qs
up_to_next n rs qs s k = by s.epoch
  where
    by : (epoch_of qs ≡ epoch_of rs) ⊎ (epoch_of qs ≡ epoch_of rs + 1) → IsUpTo n qs
    by (inl e) = omega (arith, e, k)
    by (inr e) = omega (arith, e, k)

-- What a transaction leaves of the log has the epoch still.
pub recorded_left : {D : Type 0} (honest : Bool) (image : D → List ℕ → Type 0) (faults : D → ℕ) (from to : LogState D) (x y : TxState) (n : ℕ) → is_epoch (id_of x) ≡ false
    → Leaves honest image faults x from y to → IsRecorded honest image from n → IsRecorded honest image to n
recorded_left honest image faults from to x y n off leaves was = record {
  held = up_to_same n (open_records from.slots) (open_records to.slots) (epoch_kept (id_of x) (open_records from.slots) (open_records to.slots) off leaves.slots.others) was.held;
  imaged = λ is c i. elim ((leaves.kept is).others_imaged c i) [
    | inl k ↦ was.imaged is c k
    | inr k ↦ (let l = (leaves.kept is).logs (λ b j. let r = ok_and (IsUpTo n) (log_has b) (was.imaged is b j) in (r.0, r.1)) c i in
        and_ok (IsUpTo n) (log_has c) l.0 l.1 (up_to_same n (open_records from.slots) l.0
        (epoch_kept (id_of x) (open_records from.slots) l.0 off (of_ok (log_has c) l.0 l.1 k)) was.held))
  ];
}
  where
    of_ok : (z : Result (List CommitRecord) ℕ) (rs : List CommitRecord) → z ≡ Ok rs → IfOk z (λ qs. of_others (id_of x) qs ≡ of_others (id_of x) (open_records from.slots))
        → of_others (id_of x) rs ≡ of_others (id_of x) (open_records from.slots)
    of_ok z rs is k = subst (λ (y : Result _ _). IfOk y (λ qs. of_others (id_of x) qs ≡ of_others (id_of x) (open_records from.slots))) is k

-- What a begin does to the log leaves the epoch of an earlier number, or the next.
pub recorded_next : {D : Type 0} (honest : Bool) (image : D → List ℕ → Type 0) (faults : D → ℕ) (from to : LogState D) (n : ℕ) → NumbersLog honest image faults from to
    → (IsFalse from.is_up → to ≡ from) → IsRecorded honest image from n → IsRecorded honest image to n
recorded_next honest image faults from to n log down was = record {
  held = up_to_next n (open_records from.slots) (open_records to.slots) log.records was.held;
  imaged = λ is. by from.is_up refl is;
}
  where
    by : (b : Bool) → from.is_up ≡ b → IsTrue honest → AreFrom n (image to.disk)
    by true up is c i = elim (log.imaged is up c i) [
      | inl k ↦ was.imaged is c k
      | inr k ↦ (let r = ok_and (IsSameOrNext (open_records from.slots)) (log_has c) k in and_ok (IsUpTo n) (log_has c) r.0 r.1 (up_to_next n (open_records from.slots) r.0 r.2 was.held))
    ]
    by false off is c i = subst (λ (l : LogState _). AreFrom n (image l.disk)) (sym (down off)) (was.imaged is) c i

-- nothing was done to the log
pub numbers_same : {D : Type 0} (honest : Bool) (image : D → List ℕ → Type 0) (faults : D → ℕ) (log : LogState D) → NumbersLog honest image faults log log
numbers_same honest image faults log = record {
  records = record { commits = refl; epoch = inl refl };
  imaged = λ is up c i. inl i;
  still = λ up. up;
  grows = omega arith;
  untouched = λ is rs h. (rs, h, refl);
}

-- a number of the epoch that all images have is recorded
pub recorded_new : {D : Type 0} (honest : Bool) (image : D → List ℕ → Type 0) (log : LogState D) (n : ℕ) → n ≤ 65536 * epoch_of (open_records log.slots) + 256
    → (IsTrue honest → AllHold (image log.disk) (open_records log.slots)) → IsRecorded honest image log n
recorded_new honest image log n up has = record { held = up; imaged = λ is. all_hold (IsUpTo n) (image log.disk) (open_records log.slots) (has is) up }

-- a later number of the same epoch is recorded as the last one is
pub recorded_later : {D : Type 0} (honest : Bool) (image : D → List ℕ → Type 0) (log : LogState D) (epoch given t : ℕ) → t ≤ 256 → IsRecorded honest image log (65536 * epoch + given)
    → IsRecorded honest image log (65536 * epoch + t)
recorded_later honest image log epoch given t high was = record {
  held = later (open_records log.slots) was.held;
  imaged = λ is. all_more (IsUpTo (65536 * epoch + given)) (IsUpTo (65536 * epoch + t)) (image log.disk) later (was.imaged is);
}
  where
    later : (rs : List CommitRecord) → IsUpTo (65536 * epoch + given) rs → IsUpTo (65536 * epoch + t) rs
    later rs k = omega (arith, k, high)

-- and an earlier number is recorded as a later one is
pub recorded_less : {D : Type 0} (honest : Bool) (image : D → List ℕ → Type 0) (log : LogState D) (m n : ℕ) → m ≤ n → IsRecorded honest image log n → IsRecorded honest image log m
recorded_less honest image log m n low was = record {
  held = less (open_records log.slots) was.held;
  imaged = λ is. all_more (IsUpTo n) (IsUpTo m) (image log.disk) less (was.imaged is);
}
  where
    less : (rs : List CommitRecord) → IsUpTo n rs → IsUpTo m rs
    less rs k = omega (arith, k, low)
