-- What a step of one transaction leaves of a log fits each other: the records of others stay; and so does what an opening finds.
use Rattle.std.proofs.Common.{◌≡◌, ◌≢◌, ◌⊎◌, ◌≤◌, ℕ, Bool, true, false, List, filter, length, Option, None, ap, sym, subst, ◌∙◌, inl, inr, set, ◌-◌}
use Rattle.std.specs.Prelude.{IsTrue, IsFalse, IfOk, Result, Ok, Err, is_some}
use Rattle.std.proofs.lemmas.Bool.{cases_Bool}
use Rattle.dtx_values.specs.declared.number.TxNo.{TxNo}
use Rattle.dtx_values.specs.TxIds.{first_id, number_of}
use Rattle.dtx_values.specs.declared.tx_id.TxId.{TxId}
use Rattle.outside.specs.Disk.{AreWithin}
use Rattle.dtx_model.specs.Log.{CommitRecord, first_of, is_record_of, log_has}
use Rattle.dtx_model.specs.Promotes.{identifier_of}
use Rattle.coordinator_log.specs.Crash.{IsOpened}
use Rattle.coordinator_log.specs.Slots.{open_records}
use Rattle.coordinator_log.specs.State.{LogState}
use Rattle.tx_world.specs.State.{TxState}
use Rattle.tx_world.specs.AtLog.{Fits, IsFit, IsHad, KeepsLog, KeepsSlots, id_of, of_others}
use Rattle.tx_world.proofs.Fitting.{first_there, fits_same, kept_other, own_identifier}
use Rattle.turn_parts.proofs.Records.{found_so}
use Rattle.replay_runs.specs.LogRun.{AreForeignSame, IsForeignKept, LogGoes}
use Rattle.replay_runs.specs.RunState.{AreNumbered, FitsLog, state_of}
use Rattle.replay_runs.proofs.Numbered.{is_it, state_here, state_there}

-- What is so of one result of a log is so of what follows from it.
pub ok_more : {A E : Type 0} (P Q : A → Type 0) (r : Result A E) → ((x : A) → P x → Q x) → IfOk r P → IfOk r Q
ok_more P Q (Ok x) f k = f x k
ok_more P Q (Err e) f k = tt

-- the other transactions have other identifiers
apart : (ws : List TxState) (t u : TxNo) → AreNumbered ws → u ≢ t → id_of (state_of u ws) ≢ id_of (state_of t ws)
apart ws t u n k = λ e. own_identifier (first_id u) (first_id t) (λ e. k (ap (λ (x : TxId). x.t) e)) (sym (ap (λ (v : TxId). identifier_of (number_of v)) (n.numbered u)) ∙ (e ∙ ap (λ (v : TxId). identifier_of (number_of v)) (n.numbered t)))

-- What a step of one transaction leaves of an honest log fits each other as before: of a log that is up, its records and those of each image; and one that is stopped isn't touched.
other_fits : {D : Type 0} (image : D → List ℕ → Type 0) (z x y : TxState) (from to : LogState D) → id_of z ≢ id_of x → KeepsLog image x from y to → (IsTrue to.is_up → IsTrue from.is_up) → (IsFalse from.is_up → to ≡ from)
    → FitsLog image from z → FitsLog image to z
other_fits {D} image z x y from to apart keeps still quiet f = by (cases_Bool from.is_up)
  where
    same : (rs qs : List CommitRecord) → of_others (id_of x) qs ≡ of_others (id_of x) rs → Fits z rs → Fits z qs
    same rs qs e = fits_same z rs qs (kept_other (id_of x) (id_of z) rs qs e apart)

    by : (from.is_up ≡ true) ⊎ (from.is_up ≡ false) → FitsLog image to z
    by (inl up) =
        let here : Fits z (open_records from.slots) = f.fits up in
        record {
          fits = λ u. same (open_records from.slots) (open_records to.slots) keeps.others here;
          imaged = λ c i. elim (keeps.others_imaged c i) [
            | inl old ↦ f.imaged c old
            | inr o ↦ ok_more (λ rs. of_others (id_of x) rs ≡ of_others (id_of x) (open_records from.slots)) (Fits z) (log_has c) (λ rs e. same (open_records from.slots) rs e here) o
          ];
        }
    by (inr down) = subst (λ (l : LogState D). FitsLog image l z) (sym (quiet down)) f

pub fits_turn : {D : Type 0} (image : D → List ℕ → Type 0) (ws : List TxState) (t : TxNo) (y : TxState) (from to : LogState D) → AreNumbered ws → t.value ≤ length ws → KeepsLog image (state_of t ws) from y to
    → (IsTrue to.is_up → IsTrue from.is_up) → (IsFalse from.is_up → to ≡ from) → ((u : TxNo) → FitsLog image from (state_of u ws)) → (u : TxNo) → FitsLog image to (state_of u (set ws (t.value - 1) y))
fits_turn image ws t y from to n made keeps still quiet fits u = elim (is_it u t) [ inl e ↦ own e | inr k ↦ other k ]
  where
    own : u ≡ t → FitsLog image to (state_of u (set ws (t.value - 1) y))
    own e =
        subst (λ (v : TxNo). FitsLog image to (state_of v (set ws (t.value - 1) y))) (sym e)
        (subst (FitsLog image to) (sym (state_here t ws y made)) (record { fits = keeps.fits; imaged = keeps.imaged (fits t).imaged }))

    other : u ≢ t → FitsLog image to (state_of u (set ws (t.value - 1) y))
    other k = subst (FitsLog image to) (sym (state_there u t ws y k)) (other_fits image (state_of u ws) (state_of t ws) y from to (apart ws t u n k) keeps still quiet (fits u))

-- The log has the records that it had of each other transaction in memory, whatever its disk is.
found_same : (u : ℕ) (rs qs : List CommitRecord) → filter (is_record_of u) qs ≡ filter (is_record_of u) rs → first_of u qs ≡ first_of u rs
found_same u rs qs e = sym (first_there u qs) ∙ (ap (first_of u) e ∙ first_there u rs)

pub had_turn : {D : Type 0} (ws : List TxState) (t : TxNo) (y : TxState) (from to : LogState D) → AreNumbered ws → t.value ≤ length ws → KeepsSlots (state_of t ws) from y to → (IsTrue to.is_up → IsTrue from.is_up)
    → ((u : TxNo) → IsHad (state_of u ws) from) → (u : TxNo) → IsHad (state_of u (set ws (t.value - 1) y)) to
had_turn {D} ws t y from to n made keeps still had u = elim (is_it u t) [ inl e ↦ own e | inr k ↦ other k ]
  where
    own : u ≡ t → IsHad (state_of u (set ws (t.value - 1) y)) to
    own e =
        subst (λ (v : TxNo). IsHad (state_of v (set ws (t.value - 1) y)) to) (sym e) (subst (λ (z : TxState). IsHad z to) (sym (state_here t ws y made)) (keeps.had (had t)))

    other : u ≢ t → IsHad (state_of u (set ws (t.value - 1) y)) to
    other k =
        let z = state_of u ws in
        let same = found_same (id_of z) (open_records from.slots) (open_records to.slots) (kept_other (id_of (state_of t ws)) (id_of z) (open_records from.slots) (open_records to.slots) keeps.others (apart ws t u n k)) in
        let there : IsHad z to = λ up ours none. had u (still up) ours (sym same ∙ none) in
        subst (λ (x : TxState). IsHad x to) (sym (state_there u t ws y k)) there

-- A transaction that keeps the same of the log fits it as before.
fits_by : (y x : TxState) (rs : List CommitRecord) → y.transaction ≡ x.transaction → y.ours ≡ x.ours → y.unsure ≡ x.unsure → Fits x rs → Fits y rs
fits_by y x rs number ours unsure f =
    subst (λ (u : TxId). IsFit (identifier_of (number_of u)) y.ours y.unsure rs) (sym number)
    (subst (λ (o : Option CommitRecord). IsFit (id_of x) o y.unsure rs) (sym ours) (subst (λ b. IsFit (id_of x) x.ours b rs) (sym unsure) f))

pub fits_as : {D : Type 0} (image : D → List ℕ → Type 0) (log : LogState D) (x y : TxState) → y.transaction ≡ x.transaction → y.ours ≡ x.ours → y.unsure ≡ x.unsure → FitsLog image log x → FitsLog image log y
fits_as image log x y number ours unsure f =
    record {
      fits = λ up. fits_by y x (open_records log.slots) number ours unsure (f.fits up);
      imaged = λ c i. ok_more (Fits x) (Fits y) (log_has c) (λ rs. fits_by y x rs number ours unsure) (f.imaged c i);
    }

pub had_as : {D : Type 0} (log : LogState D) (x y : TxState) → y.transaction ≡ x.transaction → y.ours ≡ x.ours → IsHad x log → IsHad y log
had_as log x y number ours had = λ up some none. had up (subst (λ (o : Option CommitRecord). is_some o ≡ true) ours some) (subst (λ (v : TxId). first_of (identifier_of (number_of v)) (open_records log.slots) ≡ None) number none)

-- An opening of the log finds the records of one of the images before it: so they fit each transaction, in memory and in each image.
pub fits_opened : {D : Type 0} (image : D → List ℕ → Type 0) (seen : D → List ℕ) (from to : LogState D) (x : TxState) → image from.disk (seen from.disk) → IsOpened seen from.disk to → AreWithin (image from.disk) (image to.disk) → FitsLog image from x
    → FitsLog image to x
fits_opened image seen from to x among opened within f =
    record { fits = λ up. found_so (Fits x) (log_has (seen from.disk)) (open_records to.slots) opened (f.imaged (seen from.disk) among); imaged = λ c i. f.imaged c (within c i) }

-- What a step leaves of the records that are no transaction's,
foreign_same : (x : TxState) (t : TxNo) → x.transaction ≡ first_id t → (before rs qs : List CommitRecord) → of_others (id_of x) qs ≡ of_others (id_of x) rs → AreForeignSame before rs → AreForeignSame before qs
foreign_same x t own before rs qs e f = λ id none. kept_other (id_of x) id rs qs e (λ s. none t (sym (ap (λ (y : TxId). identifier_of (number_of y)) own) ∙ sym s)) ∙ f id none

foreign_turn : {D : Type 0} (image : D → List ℕ → Type 0) (x y : TxState) (t : TxNo) → x.transaction ≡ first_id t → (from to : LogState D) (before : List CommitRecord) → KeepsLog image x from y to → (IsTrue to.is_up → IsTrue from.is_up) → (IsFalse from.is_up → to ≡ from)
    → IsForeignKept image before from → IsForeignKept image before to
foreign_turn {D} image x y t own from to before keeps still quiet f = by (cases_Bool from.is_up)
  where
    by : (from.is_up ≡ true) ⊎ (from.is_up ≡ false) → IsForeignKept image before to
    by (inl up) =
        let here = f.up up in
        record {
          up = λ u. foreign_same x t own before (open_records from.slots) (open_records to.slots) keeps.others here;
          imaged = λ c i. elim (keeps.others_imaged c i) [
            | inl old ↦ f.imaged c old
            | inr o ↦ ok_more (λ rs. of_others (id_of x) rs ≡ of_others (id_of x) (open_records from.slots)) (AreForeignSame before) (log_has c) (λ rs e. foreign_same x t own before (open_records from.slots) rs e here) o
          ];
        }
    by (inr down) = subst (λ (l : LogState D). IsForeignKept image before l) (sym (quiet down)) f

-- and so the log goes on as it should: in a step,
pub goes_turn : {D : Type 0} (faults : D → ℕ) (honest : Bool) (image : D → List ℕ → Type 0) (x y : TxState) (t : TxNo) → x.transaction ≡ first_id t → (from to : LogState D) → faults from.disk ≤ faults to.disk → (IsTrue to.is_up → IsTrue from.is_up) → (IsFalse from.is_up → to ≡ from)
    → (IsTrue honest → KeepsLog image x from y to) → LogGoes faults honest image from to
goes_turn faults honest image x y t own from to grows still quiet keeps =
    record { grows = grows; logs = λ h. (keeps h).logs; foreign = λ h before. foreign_turn image x y t own from to before (keeps h) still quiet }

-- and in an opening.
pub goes_opened : {D : Type 0} (faults : D → ℕ) (honest : Bool) (image : D → List ℕ → Type 0) (seen : D → List ℕ) (from to : LogState D) → faults from.disk ≤ faults to.disk → (IsTrue honest → AreWithin (image from.disk) (image to.disk))
    → (IsTrue honest → IsTrue to.is_up → image from.disk (seen from.disk) × IsOpened seen from.disk to) → LogGoes faults honest image from to
goes_opened faults honest image seen from to grows within found =
    record {
      grows = grows;
      logs = λ h are c i. are c (within h c i);
      foreign = λ h before f. record {
        up = λ up. let there = found h up in found_so (AreForeignSame before) (log_has (seen from.disk)) (open_records to.slots) there.1 (f.imaged (seen from.disk) there.0);
        imaged = λ c i. f.imaged c (within h c i);
      };
    }
