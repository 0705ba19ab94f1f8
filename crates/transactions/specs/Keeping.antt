-- What holds of each transaction of a manager, and of the log beneath them.
use Rattle.std.specs.Prelude.{ℕ, ◌≡◌, ◌≤◌, ◌<◌, ◌+◌, Bool, true, false, List, Some, None, length, slice_get, IsTrue}
use Rattle.dtx_model.specs.AtLog.{is_restart}
use Rattle.dtx_model.specs.Words.{each, has}
use Rattle.coordinator_log.specs.Slots.{open_records}
use Rattle.coordinator_log.specs.State.{LogState}
use Rattle.record_laws.specs.Recorded.{is_recovered}
use Rattle.dtx_values.specs.TxIds.{identifier_of_id, number_of}
use Rattle.dtx_values.specs.declared.tx_id.TxId.{TxId}
use Rattle.dtx_model.specs.Log.{first_of}
use Rattle.dtx_model.specs.Caused.{AreMadeOnce, IsIn, IsOwnRun}
use Rattle.dtx_model.specs.World.{core}
use Rattle.tx_world.specs.AtLog.{AreFit, Fits, IsOurs, id_of, kept_of}
use Rattle.tx_world.specs.Prepared.{NamesPrepared}
use Rattle.tx_world.specs.Tried.{IsTried}
use Rattle.transactions.specs.Counting.{is_counted}
use Rattle.transactions.specs.Numbering.{IsRecorded}
use Rattle.transactions.specs.State.{LiveState, past}

-- What holds of a transaction: its world is its own, no restart and no recovery came there, what was heard is there, its calls' lines and names are those that it gave, and its record names who
-- said PREPARED.
pub record IsSound (x : LiveState) : Type 0 where
  pub own : x.tx.transaction ≡ x.number
  pub unrestarted : has is_restart (past x) ≡ false
  pub within : x.heard ≤ length (past x)
  pub counted : each (is_counted x.lines x.enlisted x.cloned) x.tx.world.calls ≡ true
  pub unrecovered : has is_recovered (past x) ≡ false
  pub named : NamesPrepared x.tx

-- The log of an honest disk fits each transaction, while it is up; and so does each image that a crash can leave. No transaction has a number above this last one, and no image has a record of
-- such a number where the log has none.
pub record FitsAll {D : Type 0} (image : D → List ℕ → Type 0) (log : LogState D) (xs : List LiveState) (last : ℕ) : Type 0 where
  pub fits : IsTrue log.is_up → (i : ℕ) → (x : LiveState) → slice_get xs i ≡ Some x → Fits x.tx (open_records log.slots)
  pub imaged : (i : ℕ) → (x : LiveState) → slice_get xs i ≡ Some x → AreFit (image log.disk) (Fits x.tx)
  pub upto : (i : ℕ) → (x : LiveState) → slice_get xs i ≡ Some x → number_of x.number ≤ last
  pub unknown : (t : TxId) → last < number_of t → first_of (identifier_of_id t) (open_records log.slots) ≡ None → AreFit (image log.disk) (λ rs. first_of (identifier_of_id t) rs ≡ None)

-- each transaction stands at the place of its number within its epoch, and its world is its own
abbrev pub AreNumbered : List LiveState → Type 0
AreNumbered xs = (i : ℕ) → (x : LiveState) → slice_get xs i ≡ Some x → (x.number.t.value ≡ i + 1) × (x.tx.transaction ≡ x.number)

-- What a manager keeps: each transaction stands at its place; the log of an honest disk fits them; no stop of the log is armed; and the log recorded the epoch of the last number.
abbrev pub IsKept : {D : Type 0} → Bool → (D → List ℕ → Type 0) → LogState D → List LiveState → ℕ → Type 0
IsKept honest image log xs last = AreNumbered xs × (IsTrue honest → FitsAll image log xs last) × (log.armed ≡ None) × IsRecorded honest image log last

-- What holds of a transaction and of the log's records of it: its history is one that its own calls made, with no restart and no recovery; what it keeps of the log is what its history says, and
-- its record names who said PREPARED; and the log of an honest disk, and each image of it, fits that.
pub record HasRun {D : Type 0} (honest : Bool) (image : D → List ℕ → Type 0) (log : LogState D) (x : LiveState) : Type 0 where
  pub sound : IsSound x
  pub run : IsOwnRun (number_of x.tx.transaction) x.tx.world
  pub once : AreMadeOnce (IsIn x.tx.world.calls)
  pub ours : IsOurs (id_of x.tx) (core x.tx.world) (kept_of x.tx)
  pub tried : IsTried (past x) (kept_of x.tx)
  pub fits : IsTrue honest → IsTrue log.is_up → Fits x.tx (open_records log.slots)
  pub imaged : IsTrue honest → AreFit (image log.disk) (Fits x.tx)
