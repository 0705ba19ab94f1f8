-- What a call of one transaction leaves of the log's records of the others.
use Rattle.std.specs.Prelude.{IfOk, IsFalse, IsOkAnd, IsTrue}
use Rattle.std.proofs.Common.{ℕ, Bool, true, false, ◌≡◌, ◌≢◌, ◌==◌, ◌∙◌, List, Result, Ok, refl, ap, arith, subst, inl, inr}
use Rattle.std.proofs.lemmas.Bool.Decides.{nat_tests}
use Rattle.dtx_values.specs.TxIds.{identifier_of_id}
use Rattle.dtx_values.specs.declared.tx_id.TxId.{TxId}
use Rattle.dtx_model.specs.Log.{CommitRecord, first_of, log_has}
use Rattle.coordinator_log.specs.Slots.{open_records}
use Rattle.coordinator_log.specs.State.{LogState}
use Rattle.log_epochs.proofs.Records.{same_first, same_records}
use Rattle.log_epochs.specs.Beginning.{AllAre, IsSameOrNext}
use Rattle.log_epochs.specs.Epochs.{commits_of, is_epoch}
use Rattle.world_parts.specs.AtLog.{of_others}
use Rattle.tx_world.specs.AtLog.{id_of}
use Rattle.tx_world.specs.Leaves.{Leaves}
use Rattle.tx_world.specs.State.{TxState}
use Rattle.tx_world.proofs.Fitting.{kept_other}
use Rattle.transactions.specs.Logged.{KeepsCommits, KeepsRecords, MayHold}

-- two numbers that a test tells apart are two
not_same : (n m : ℕ) → (n == m) ≡ false → n ≢ m
not_same n m apart e = let same : (n == m) ≡ true = grind (arith, nat_tests) in cc

-- where the records of all others than one stay, the first of another identifier does
pub first_stays : (id other : ℕ) (rs qs : List CommitRecord) → (other == id) ≡ false → of_others id qs ≡ of_others id rs → first_of other qs ≡ first_of other rs
first_stays id other rs qs apart same = same_first other rs qs (kept_other id other rs qs same (not_same other id apart))

-- and so it does where the records of transactions stay
pub commit_stays : (t : TxId) (rs qs : List CommitRecord) → is_epoch (identifier_of_id t) ≡ false → commits_of qs ≡ commits_of rs → first_of (identifier_of_id t) qs ≡ first_of (identifier_of_id t) rs
commit_stays t rs qs off same = same_first (identifier_of_id t) rs qs (same_records (identifier_of_id t) rs qs off same)

-- what is said of what was read, where it was read
of_ok : (P : List CommitRecord → Type 0) (rs : List CommitRecord) (z : Result (List CommitRecord) ℕ) → z ≡ Ok rs → IfOk z P → P rs
of_ok P rs z is p = subst (λ (y : Result (List CommitRecord) ℕ). IfOk y P) is p

-- a log that is as it was may have what it might
pub keeps_same : {D : Type 0} (honest : Bool) (image : D → List ℕ → Type 0) (id : ℕ) (from to : LogState D) → to ≡ from → KeepsRecords honest image id from to
keeps_same honest image id from to same is rs h = (rs, subst (λ (l : LogState _). MayHold image l rs) same h, refl)

-- and what was left was left
pub keeps_then : {D : Type 0} (honest : Bool) (image : D → List ℕ → Type 0) (id : ℕ) (from mid to : LogState D) → KeepsRecords honest image id from mid → KeepsRecords honest image id mid to
    → KeepsRecords honest image id from to
keeps_then honest image id from mid to a b is rs h =
    let q = b is rs h in
    let p = a is q.0 q.1 in
    (p.0, p.1, q.2 ∙ p.2)

-- A step of a transaction leaves the records of the others, where it leaves a log that is down.
pub keeps_step : {D : Type 0} (honest : Bool) (image : D → List ℕ → Type 0) (faults : D → ℕ) (x y : TxState) (from to : LogState D) → Leaves honest image faults x from y to
    → (IsFalse from.is_up → to ≡ from) → KeepsRecords honest image (id_of x) from to
keeps_step {D} honest image faults x y from to leaves down = by from.is_up refl
  where
    held : from.is_up ≡ true → KeepsRecords honest image (id_of x) from to
    held up is rs (inl k) = elim ((leaves.kept is).others_imaged k.0 k.1) [
      | inl i ↦ (rs, inl (k.0, i, k.2), refl)
      | inr e ↦ (open_records from.slots, inr (up, refl), of_ok (λ qs. of_others (id_of x) qs ≡ of_others (id_of x) (open_records from.slots)) rs (log_has k.0) k.2 e)
    ]
    held up is rs (inr k) = (open_records from.slots, inr (up, refl), ap (of_others (id_of x)) k.1 ∙ (leaves.kept is).others)

    by : (b : Bool) → from.is_up ≡ b → KeepsRecords honest image (id_of x) from to
    by true up = held up
    by false off = keeps_same honest image (id_of x) from to (down off)

-- the same, by the number of the transaction
pub keeps_own : {D : Type 0} (honest : Bool) (image : D → List ℕ → Type 0) (t : TxId) (x : TxState) (from to : LogState D) → x.transaction ≡ t → KeepsRecords honest image (id_of x) from to
    → KeepsRecords honest image (identifier_of_id t) from to
keeps_own honest image t x from to own k = subst (λ (u : TxId). KeepsRecords honest image (identifier_of_id u) from to) own k

-- Nor does the beginning of an epoch touch a transaction's record.
pub keeps_next : {D : Type 0} (image : D → List ℕ → Type 0) (from to : LogState D) → IsSameOrNext (open_records from.slots) (open_records to.slots)
    → (IsTrue from.is_up → AllAre (image to.disk) (IsSameOrNext (open_records from.slots))) → (IsFalse from.is_up → to ≡ from) → KeepsCommits image from to
keeps_next {D} image from to records images down = by from.is_up refl
  where
    held : from.is_up ≡ true → KeepsCommits image from to
    held up rs (inl k) = (
      open_records from.slots,
      inr (up, refl),
      (subst (λ (y : Result (List CommitRecord) ℕ). IsOkAnd y (IsSameOrNext (open_records from.slots))) k.2 (images up k.0 k.1)).commits,
    )
    held up rs (inr k) = (open_records from.slots, inr (up, refl), ap commits_of k.1 ∙ records.commits)

    by : (b : Bool) → from.is_up ≡ b → KeepsCommits image from to
    by true up = held up
    by false is_down = λ rs h. (rs, subst (λ (l : LogState D). MayHold image l rs) (down is_down) h, refl)
