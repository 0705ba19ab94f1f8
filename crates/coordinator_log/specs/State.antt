-- A log as its users see it.
use Rattle.std.specs.Prelude.{◌≡◌, ◌≤◌, ℕ, Bool, true, IsTrue, List, Option, is_ok}
use Rattle.outside.specs.Images.{AreSame, Images}
use Rattle.dtx_model.specs.Log.{CommitRecord, log_has}
use Rattle.coordinator_log.specs.declared.layout.TheConstants.{LOG_BYTES}
use Rattle.coordinator_log.specs.declared.stop.ArmedStop.{ArmedStop}
use Rattle.coordinator_log.specs.Slots.{Agrees}

-- its disk; the record of each slot, and none where the gate is closed; whether it is up; its life; and the stop that is armed, where one is
pub record LogState (D : Type 0) : Type 0 where
  pub disk : D
  pub slots : List (Option CommitRecord)
  pub is_up : Bool
  pub life : ℕ
  pub armed : Option ArmedStop

-- what holds of each log: while it is up its slots are those of the disk, and a disk that obeys is synced; each image that a crash can leave is a log; and the disk has room for one
pub record IsKept (honest obeys : Bool) (seen : List ℕ) (image : List ℕ → Type 0) (images : Images) (size : ℕ) (slots : List (Option CommitRecord)) (up : Bool) : Type 0 where
  pub agrees : IsTrue honest → IsTrue up → Agrees seen image slots
  pub synced : IsTrue obeys → IsTrue up → AreSame images
  pub whole : IsTrue honest → (c : List ℕ) → image c → is_ok (log_has c) ≡ true
  pub room : LOG_BYTES ≤ size
