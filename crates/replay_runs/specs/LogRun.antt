-- The log under a run: what of it the trace says, and what stays.
use Rattle.std.specs.Prelude.{ℕ, ◌+◌, ◌≡◌, ◌<◌, ◌≤◌, ◌⊎◌, Bool, true, ◌&&◌, not, List, filter, Option, None, IsTrue}
use Rattle.std.specs.Option.{option_map}
use Rattle.dtx_values.specs.declared.number.TxNo.{TxNo}
use Rattle.outside.specs.Faults.{Rose}
use Rattle.dtx_model.specs.AtLog.{armed, at_log, made, one_if}
use Rattle.dtx_model.specs.Log.{CommitRecord, is_record_of}
use Rattle.dtx_model.specs.Promotes.{identifier_of}
use Rattle.dtx_model.specs.Traces.{Placed}
use Rattle.coordinator_log.specs.Slots.{open_records}
use Rattle.coordinator_log.specs.State.{LogState}
use Rattle.coordinator_log.specs.declared.stop.ArmedStop.{ArmedStop}
use Rattle.tx_world.specs.AtLog.{AreFit, AreLogs}
use Rattle.turn_parts.specs.Counted.{AreCounted, LAST, is_left}
use Rattle.replay_runs.specs.Exact.{faults_made, is_left_over, stops_exactly}

-- the stop that is armed, as the trace counts it: at which device call since it was armed
abbrev pub armed_at : List Placed → Option ArmedStop → Option ℕ
armed_at T o = option_map (λ s. made T + (s.passes + 1)) o

-- what the trace has armed is armed at the log, whose own may be left over where the trace has none
abbrev pub IsArmedBy : Option ArmedStop → List Placed → Type 0
IsArmedBy stop T = (armed (at_log T) ≡ armed_at T stop) ⊎ (armed (at_log T) ≡ None)

-- The faults and the armed stop of a log, where its count of faults was `before` at the start and is `now`, and T is the trace, newest first, whatever comes behind it. The faults that the trace tells of rose the
-- count, unless it stands at its last value, and so did one in place of an armed stop that the log has left over; each entry that a fault made did so too. Each stop stands exactly where its device call was
-- reached, and what the trace has armed is armed.
pub record IsCounted (before now : ℕ) (stop : Option ArmedStop) (T : List Placed) : Type 0 where
  pub count : AreCounted before now stop (at_log T)
  pub broken : (behind : List Placed) → now < LAST → before + one_if (is_left stop (armed (at_log T)) && not (is_left_over behind T)) (faults_made behind T) ≤ now
  pub exact : stops_exactly T ≡ true
  pub armed : IsArmedBy stop T

-- the records that are no transaction's of a script are the same
abbrev pub AreForeignSame : List CommitRecord → List CommitRecord → Type 0
AreForeignSame before rs = (id : ℕ) → ((t : TxNo) → identifier_of t.value ≡ id → ⊥) → filter (is_record_of id) rs ≡ filter (is_record_of id) before

-- so are those of a log that is up, and of each image that a crash can leave
pub record IsForeignKept {D : Type 0} (image : D → List ℕ → Type 0) (before : List CommitRecord) (log : LogState D) : Type 0 where
  pub up : IsTrue log.is_up → AreForeignSame before (open_records log.slots)
  pub imaged : AreFit (image log.disk) (AreForeignSame before)

-- How a log goes on under a run, whatever stops and restarts come: the count of faults never falls; and over an honest disk each image that a crash can leave stays a log, and the records that are no
-- transaction's stay.
pub record LogGoes {D : Type 0} (faults : D → ℕ) (honest : Bool) (image : D → List ℕ → Type 0) (from to : LogState D) : Type 0 where
  pub grows : faults from.disk ≤ faults to.disk
  pub logs : IsTrue honest → AreLogs (image from.disk) → AreLogs (image to.disk)
  pub foreign : IsTrue honest → (before : List CommitRecord) → IsForeignKept image before from → IsForeignKept image before to

-- How a log goes on where no line arms a stop or opens it again: where it is up and no stop is armed, it is stopped by a fault alone; one that is stopped stays stopped; its life stays, and no stop is armed.
pub record LogStays {D : Type 0} (faults : D → ℕ) (from to : LogState D) : Type 0 where
  pub stays : IsTrue from.is_up → from.armed ≡ None → IsTrue to.is_up ⊎ Rose (faults from.disk) (faults to.disk)
  pub still : IsTrue to.is_up → IsTrue from.is_up
  pub unarmed : from.armed ≡ None → to.armed ≡ None
  pub life : to.life ≡ from.life

-- the disk met no fault from the one state to the other: its count of faults didn't rise
abbrev pub MetNoFault : {D : Type 0} → (D → ℕ) → D → D → Type 0
MetNoFault faults from to = Rose (faults from) (faults to) → ⊥
