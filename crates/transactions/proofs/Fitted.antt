-- What is so of each image that a crash can leave.
use Rattle.std.specs.Prelude.{IfOk, IsFalse, IsOkAnd, IsTrue}
use Rattle.std.proofs.Common.{ℕ, ◌-◌, if◌then◌else◌, Bool, true, false, inl, inr, refl, ◌∙◌, ◌≡◌, ◌≢◌, ◌≤◌, ◌<◌, List, Option, Some, None, Result, Ok, Err, slice_get, slice_set, ap, arith, subst, sym}
use Rattle.dtx_values.specs.TxIds.{identifier_of_id, number_of}
use Rattle.dtx_values.specs.declared.tx_id.TxId.{TxId}
use Rattle.dtx_model.specs.Log.{CommitRecord, first_of, log_has}
use Rattle.coordinator_log.specs.Slots.{open_records}
use Rattle.coordinator_log.specs.State.{LogState}
use Rattle.log_epochs.specs.Beginning.{AllAre}
use Rattle.log_epochs.proofs.Records.{same_first}
use Rattle.world_parts.specs.AtLog.{of_others}
use Rattle.dtx_model.specs.Caused.{AreMadeOnce, IsIn, IsOwnRun}
use Rattle.dtx_model.specs.World.{core}
use Rattle.tx_world.specs.AtLog.{AreFit, Fits, IsOurs, KeepsLog, id_of, kept_of}
use Rattle.tx_world.specs.Tried.{IsTried}
use Rattle.tx_world.specs.Leaves.{Leaves}
use Rattle.tx_world.specs.State.{TxState}
use Rattle.tx_world.proofs.Fitting.{fits_same, kept_other, own_identifier}
use Rattle.transactions.specs.Keeping.{AreNumbered, FitsAll, HasRun, IsKept, IsSound}
use Rattle.transactions.specs.Slots.{is_live, live_at, live_in}
use Rattle.transactions.specs.State.{LiveState, past}
use Rattle.transactions.proofs.Standing.{apart, put_at}

-- what is so of the records that were read, where it follows
pub ok_more : (P Q : List CommitRecord → Type 0) (z : Result (List CommitRecord) ℕ) → ((rs : List CommitRecord) → P rs → Q rs) → IfOk z P → IfOk z Q
ok_more P Q (Ok rs) more p = more rs p
ok_more P Q (Err e) more p = tt

pub and_more : (P Q : List CommitRecord → Type 0) (z : Result (List CommitRecord) ℕ) → ((rs : List CommitRecord) → P rs → Q rs) → IsOkAnd z P → IfOk z Q
and_more P Q (Ok rs) more p = more rs p
and_more P Q (Err e) more p = absurd p

pub are_more : (image : List ℕ → Type 0) (P Q : List CommitRecord → Type 0) → ((rs : List CommitRecord) → P rs → Q rs) → AreFit image P → AreFit image Q
are_more image P Q more all c i = ok_more P Q (log_has c) more (all c i)

pub all_more_are : (image : List ℕ → Type 0) (P Q : List CommitRecord → Type 0) → ((rs : List CommitRecord) → P rs → Q rs) → AllAre image P → AreFit image Q
all_more_are image P Q more all c i = and_more P Q (log_has c) more (all c i)

-- a transaction of a number above that of another has another identifier
pub apart_above : (t : TxId) (x : LiveState) (last : ℕ) → x.tx.transaction ≡ x.number → number_of x.number ≤ last → last < number_of t → identifier_of_id t ≢ id_of x.tx
apart_above t x last own upto above = own_identifier t x.tx.transaction (λ e. never (ap (λ (u : TxId). number_of u) e))
  where
    never : number_of t ≡ number_of x.tx.transaction → ⊥
    never e = let same : number_of x.tx.transaction ≡ number_of x.number = ap (λ (u : TxId). number_of u) own in omega arith

-- the numbers stay up to the last one
pub upto_set : (xs : List LiveState) (i : ℕ) (x y : LiveState) (last : ℕ) → slice_get xs i ≡ Some x → y.number ≡ x.number → ((j : ℕ) (z : LiveState) → slice_get xs j ≡ Some z → number_of z.number ≤ last)
    → (j : ℕ) (z : LiveState) → slice_get (slice_set xs i y) j ≡ Some z → number_of z.number ≤ last
upto_set xs i x y last here number upto =
    put_at {P = λ (z : LiveState). number_of z.number ≤ last} xs i x y here (subst (λ (t : TxId). number_of t ≤ last) (sym number) (upto i x here)) (λ j z n there. upto j z there)

-- A call that doesn't touch the log keeps that the log fits all.
pub fits_set : {D : Type 0} (image : D → List ℕ → Type 0) (log : LogState D) (xs : List LiveState) (i : ℕ) (x y : LiveState) (last : ℕ) → slice_get xs i ≡ Some x → y.number ≡ x.number
    → ((rs : List CommitRecord) → Fits x.tx rs → Fits y.tx rs) → FitsAll image log xs last → FitsAll image log (slice_set xs i y) last
fits_set image log xs i x y last here number keeps all =
    record {
      fits = λ up. put_at {P = λ (z : LiveState). Fits z.tx (open_records log.slots)} xs i x y here (keeps (open_records log.slots) (all.fits up i x here)) (λ j z n there. all.fits up j z there);
      imaged = put_at {P = λ (z : LiveState). AreFit (image log.disk) (Fits z.tx)} xs i x y here (are_more (image log.disk) (Fits x.tx) (Fits y.tx) keeps (all.imaged i x here))
          (λ j z n there. all.imaged j z there);
      upto = upto_set xs i x y last here number all.upto;
      unknown = all.unknown;
    }

-- What a transaction leaves of the log fits another, where the log was up: an image of it is one of before, or has the same records of the other.
image_left : {D : Type 0} (image : D → List ℕ → Type 0) (from to : LogState D) (x y : TxState) (P : List CommitRecord → Type 0) → KeepsLog image x from y to → AreFit (image from.disk) P
    → ((rs : List CommitRecord) → of_others (id_of x) rs ≡ of_others (id_of x) (open_records from.slots) → P rs) → AreFit (image to.disk) P
image_left image from to x y P keeps was more c k = elim (keeps.others_imaged c k) [
  | inl i ↦ was c i
  | inr same ↦ ok_more (λ rs. of_others (id_of x) rs ≡ of_others (id_of x) (open_records from.slots)) P (log_has c) more same
]

-- So what the log does for one transaction keeps that the log fits all.
pub fits_left : {D : Type 0} (honest : Bool) (image : D → List ℕ → Type 0) (faults : D → ℕ) (from to : LogState D) (xs : List LiveState) (i : ℕ) (x y : LiveState) (last : ℕ) → IsTrue honest
    → AreNumbered xs → slice_get xs i ≡ Some x → y.number ≡ x.number → Leaves honest image faults x.tx from y.tx to → (IsFalse from.is_up → to ≡ from) → FitsAll image from xs last
    → FitsAll image to (slice_set xs i y) last
fits_left {D} honest image faults from to xs i x y last is numbered here number leaves down all =
    let keeps = leaves.kept is in
    record {
      fits = λ up. put_at {P = λ (z : LiveState). Fits z.tx (open_records to.slots)} xs i x y here (keeps.fits up)
          (λ j z n there. fits_same z.tx (open_records from.slots) (open_records to.slots)
          (kept_other (id_of x.tx) (id_of z.tx) (open_records from.slots) (open_records to.slots) keeps.others (apart xs i j x z numbered here there n)) (all.fits (leaves.later.still up) j z there));
      imaged = put_at {P = λ (z : LiveState). AreFit (image to.disk) (Fits z.tx)} xs i x y here (keeps.imaged (all.imaged i x here)) (λ j z n there. others from.is_up refl j z n there);
      upto = upto_set xs i x y last here number all.upto;
      unknown = λ t above none. unknown from.is_up refl t above none;
    }
  where
    others : (b : Bool) → from.is_up ≡ b → (j : ℕ) (z : LiveState) → j ≢ i → slice_get xs j ≡ Some z → AreFit (image to.disk) (Fits z.tx)
    others true up j z n there = image_left image from to x.tx y.tx (Fits z.tx) (leaves.kept is) (all.imaged j z there) (λ rs same.
        fits_same z.tx (open_records from.slots) rs (kept_other (id_of x.tx) (id_of z.tx) (open_records from.slots) rs same (apart xs i j x z numbered here there n)) (all.fits up j z there))
    others false off j z n there = subst (λ (l : LogState D). AreFit (image l.disk) (Fits z.tx)) (sym (down off)) (all.imaged j z there)

    unknown : (b : Bool) → from.is_up ≡ b → (t : TxId) → last < number_of t → first_of (identifier_of_id t) (open_records to.slots) ≡ None → AreFit (image to.disk) (λ rs. first_of (identifier_of_id t) rs ≡ None)
    unknown true up t above none =
        let id = identifier_of_id t in
        let other = apart_above t x last (numbered i x here).1 (all.upto i x here) above in
        let stays : (rs : List CommitRecord) → of_others (id_of x.tx) rs ≡ of_others (id_of x.tx) (open_records from.slots) → first_of id rs ≡ first_of id (open_records from.slots)
        = λ rs same. same_first id (open_records from.slots) rs (kept_other (id_of x.tx) id (open_records from.slots) rs same other) in
        let was : first_of id (open_records from.slots) ≡ None = sym (stays (open_records to.slots) (leaves.kept is).others) ∙ none in
        image_left image from to x.tx y.tx (λ rs. first_of id rs ≡ None) (leaves.kept is) (all.unknown t above was) (λ rs same. stays rs same ∙ was)
    unknown false off t above none =
        let id = identifier_of_id t in
        subst (λ (l : LogState D). AreFit (image l.disk) (λ rs. first_of id rs ≡ None)) (sym (down off)) (all.unknown t above (subst (λ (l : LogState D). first_of id (open_records l.slots) ≡ None) (down off) none))

-- a transaction that goes on stands at its place
stands_there : (t : TxId) (o : Option LiveState) (x : LiveState) → live_in t o ≡ Some x → o ≡ Some x
stands_there t (Some y) x at = by (is_live t y) at
  where
    by : (b : Bool) → (if b then Some y else None) ≡ Some x → Some y ≡ Some x
    by true e = e
    by false e = absurd cc
stands_there t None x at = absurd cc

-- So what holds of it holds of it and of the log's records of it.
pub has_run_at : {D : Type 0} (honest : Bool) (image : D → List ℕ → Type 0) (log : LogState D) (t : TxId) (xs : List LiveState) (last : ℕ) (x : LiveState) → live_at t xs ≡ Some x
    → IsKept honest image log xs last → IsSound x → IsOwnRun (number_of x.tx.transaction) x.tx.world → AreMadeOnce (IsIn x.tx.world.calls)
    → IsOurs (id_of x.tx) (core x.tx.world) (kept_of x.tx) → IsTried (past x) (kept_of x.tx) → HasRun honest image log x
has_run_at honest image log t xs last x at kept sound run once ours tried =
    let there = stands_there t (slice_get xs (t.t.value - 1)) x at in
    record {
      sound = sound;
      run = run;
      once = once;
      ours = ours;
      tried = tried;
      fits = λ is up. (kept.1 is).fits up (t.t.value - 1) x there;
      imaged = λ is. (kept.1 is).imaged (t.t.value - 1) x there;
    }
