-- What the disk of the log was asked for is done.
use Rattle.std.specs.Prelude.{IsTrue}
use Rattle.std.proofs.Common.{ℕ, ◌≡◌, Bool, List, None, subst, sym}
use Rattle.dtx_values.specs.TxIds.{identifier_of_id}
use Rattle.dtx_model.specs.Log.{first_of}
use Rattle.outside.specs.Disk.{AreWithin}
use Rattle.coordinator_log.specs.Slots.{open_records}
use Rattle.coordinator_log.specs.State.{LogState}
use Rattle.tx_world.specs.AtLog.{Fits}
use Rattle.transactions.specs.Keeping.{FitsAll}
use Rattle.transactions.specs.Numbering.{IsRecorded, IsUpTo}
use Rattle.transactions.specs.State.{LiveState}

-- the log fits all as before
pub fits_settled : {D : Type 0} (image : D → List ℕ → Type 0) (from to : LogState D) (xs : List LiveState) (last : ℕ) → to ≡ record from { disk = to.disk }
    → AreWithin (image from.disk) (image to.disk) → FitsAll image from xs last → FitsAll image to xs last
fits_settled image from to xs last kept within all = record {
  fits = λ up i x there.
      (let was : IsTrue from.is_up = subst (λ (l : LogState _). IsTrue l.is_up) kept up in
      subst (λ (l : LogState _). Fits x.tx (open_records l.slots)) (sym kept) (all.fits was i x there));
  imaged = λ i x there c left. all.imaged i x there c (within c left);
  upto = all.upto;
  unknown = λ t above none c left. all.unknown t above (subst (λ (l : LogState _). first_of (identifier_of_id t) (open_records l.slots) ≡ None) kept none) c (within c left);
}

-- and has the epoch of the last number as before
pub recorded_settled : {D : Type 0} (honest : Bool) (image : D → List ℕ → Type 0) (from to : LogState D) (last : ℕ) → to ≡ record from { disk = to.disk } → AreWithin (image from.disk) (image to.disk)
    → IsRecorded honest image from last → IsRecorded honest image to last
recorded_settled honest image from to last kept within r =
    record { held = subst (λ (l : LogState _). IsUpTo last (open_records l.slots)) (sym kept) r.held; imaged = λ h c left. r.imaged h c (within c left) }
