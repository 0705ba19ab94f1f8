-- What a step or a call leaves of the log where it doesn't touch it, and what two leave, one after the other.
use Rattle.std.proofs.Common.{◌≡◌, ◌∙◌, inl, inr, ℕ, Bool, List, Option, le_refl, le_trans, refl, sym, ap, subst}
use Rattle.std.specs.Prelude.{IfOk, IsTrue, Ok, Err, Result}
use Rattle.dtx_values.specs.TxIds.{number_of}
use Rattle.dtx_values.specs.declared.tx_id.TxId.{TxId}
use Rattle.dtx_model.specs.Promotes.{identifier_of}
use Rattle.dtx_model.specs.Log.{CommitRecord, log_has}
use Rattle.coordinator_log.specs.Slots.{open_records}
use Rattle.coordinator_log.specs.State.{LogState}
use Rattle.tx_world.specs.AtLog.{Fits, HasKept, IsFit, Keeps, KeepsLog, KeepsSlots, id_of, of_others}
use Rattle.tx_world.specs.Leaves.{IsLater, Leaves}
use Rattle.tx_world.specs.Prepared.{NamesPrepared}
use Rattle.tx_world.specs.State.{TxState}

-- a log is a later state of itself, and of what it was before
pub later_same : {D : Type 0} (faults : D → ℕ) (l : LogState D) → IsLater faults l l
later_same faults l = record { life = refl; grows = le_refl (faults l.disk); unarmed = λ none. none; still = λ up. up }

pub later_on : {D : Type 0} (faults : D → ℕ) (from at_it to : LogState D) → IsLater faults from at_it → IsLater faults at_it to → IsLater faults from to
later_on faults from at_it to a b = record {
  life = b.life ∙ a.life;
  grows = le_trans a.grows b.grows;
  unarmed = λ none. b.unarmed (a.unarmed none);
  still = λ up. a.still (b.still up);
}

-- what two calls keep, one after the other
keeps_both : {D : Type 0} (image : D → List ℕ → Type 0) (id : ℕ) (f g h : List CommitRecord → Type 0) (from at_it to : LogState D) → Keeps image id f g from at_it → Keeps image id g h at_it to → Keeps image id f h from to
keeps_both image id f g h from at_it to a b =
    record {
      fits = b.fits;
      imaged = λ i. b.imaged (a.imaged i);
      logs = λ i. b.logs (a.logs i);
      others = b.others ∙ a.others;
      others_imaged = λ c i. elim (b.others_imaged c i) [ inl k ↦ a.others_imaged c k | inr k ↦ inr (further (log_has c) k) ];
    }
  where
    further : (r : Result (List CommitRecord) ℕ) → IfOk r (λ rs. of_others id rs ≡ of_others id (open_records at_it.slots)) → IfOk r (λ rs. of_others id rs ≡ of_others id (open_records from.slots))
    further (Ok rs) k = k ∙ a.others
    further (Err e) k = tt

keeps_on : {D : Type 0} (image : D → List ℕ → Type 0) (old mid new : TxState) (from at_it to : LogState D) → mid.transaction ≡ old.transaction → KeepsLog image old from mid at_it → KeepsLog image mid at_it new to
    → KeepsLog image old from new to
keeps_on image old mid new from at_it to same a b =
    let P : ℕ → Type 0 = λ id. Keeps image id (Fits mid) (Fits new) at_it to in
    keeps_both image (id_of old) (Fits old) (Fits mid) (Fits new) from at_it to a (subst P (ap (λ (t : TxId). identifier_of (number_of t)) same) b)

-- and of the records that the log keeps in memory
slots_on : {D : Type 0} (old mid new : TxState) (from at_it to : LogState D) → mid.transaction ≡ old.transaction → KeepsSlots old from mid at_it → KeepsSlots mid at_it new to → KeepsSlots old from new to
slots_on old mid new from at_it to same a b =
    let P : ℕ → Type 0 = λ id. of_others id (open_records to.slots) ≡ of_others id (open_records at_it.slots) in
    record { others = subst P (ap (λ (t : TxId). identifier_of (number_of t)) same) b.others ∙ a.others; had = λ h. b.had (a.had h) }

-- What two leave, one after the other, they leave together.
pub leaves_on : {D : Type 0} {honest : Bool} {image : D → List ℕ → Type 0} {faults : D → ℕ} (old mid new : TxState) (from at_it to : LogState D) → mid.transaction ≡ old.transaction → Leaves honest image faults old from mid at_it
    → Leaves honest image faults mid at_it new to → Leaves honest image faults old from new to
leaves_on {D} {honest} {image} {faults} old mid new from at_it to same a b = record {
  kept = λ is. keeps_on image old mid new from at_it to same (a.kept is) (b.kept is);
  slots = slots_on old mid new from at_it to same a.slots b.slots;
  named = λ named. b.named (a.named named);
  later = later_on faults from at_it to a.later b.later;
}

-- what is said of the records that fit is said of those that fit a state with the same transaction, the same record, and as sure
fits_there : (P : (List CommitRecord → Type 0) → Type 0) (old new : TxState) → new.transaction ≡ old.transaction → (new.ours ≡ old.ours) × (new.unsure ≡ old.unsure) → P (Fits old) → P (Fits new)
fits_there P old new there same p =
    let sure : P (IsFit (id_of old) old.ours new.unsure) = subst (λ (u : Bool). P (IsFit (id_of old) old.ours u)) (sym same.1) p in
    let ours : P (IsFit (id_of old) new.ours new.unsure) = subst (λ (o : Option CommitRecord). P (IsFit (id_of old) o new.unsure)) (sym same.0) sure in
    subst (λ (t : TxId). P (IsFit (identifier_of (number_of t)) new.ours new.unsure)) (sym there) ours

-- A step or a call that doesn't touch the log, nor the record that is kept, leaves what there was.
pub leaves_beside : {D : Type 0} {honest : Bool} {image : D → List ℕ → Type 0} {faults : D → ℕ} (old new : TxState) (l : LogState D) → (IsTrue honest → IsTrue l.is_up → Fits old (open_records l.slots))
    → new.transaction ≡ old.transaction → (new.ours ≡ old.ours) × (new.unsure ≡ old.unsure) → (NamesPrepared old → NamesPrepared new) → Leaves honest image faults old l new l
leaves_beside {D} {honest} {image} {faults} old new l fits there same named =
    let H : ℕ → Option CommitRecord → Type 0 = λ id o. HasKept id o l in
    record {
      kept = λ is. fits_there (λ (f : List CommitRecord → Type 0). Keeps image (id_of old) (Fits old) f l l) old new there same
          (record { fits = fits is; imaged = λ i. i; logs = λ i. i; others = refl; others_imaged = λ c i. inl i });
      slots = record { others = refl; had = λ h. subst (λ (t : TxId). H (identifier_of (number_of t)) new.ours) (sym there) (subst (H (id_of old)) (sym same.0) h) };
      named = named;
      later = later_same faults l;
    }

-- So does what does nothing.
pub leaves_same : {D : Type 0} {honest : Bool} {image : D → List ℕ → Type 0} {faults : D → ℕ} (old new : TxState) (from to : LogState D) → (IsTrue honest → IsTrue from.is_up → Fits old (open_records from.slots))
    → (new ≡ old) × (to ≡ from) → Leaves honest image faults old from new to
leaves_same {D} {honest} {image} {faults} old new from to fits same =
    let P : TxState → Type 0 = λ x. Leaves honest image faults old from x to in
    let Q : LogState D → Type 0 = λ l. Leaves honest image faults old from old l in
    subst P (sym same.0) (subst Q (sym same.1) (leaves_beside old old from fits refl (refl, refl) (λ n. n)))
