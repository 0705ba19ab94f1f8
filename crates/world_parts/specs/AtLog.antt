-- What the coordinator of one transaction keeps of the log, and what of the log is another's.
use Rattle.std.specs.Prelude.{ℕ, ◌≡◌, ◌≢◌, ◌⊎◌, ◌↔◌, ◌≤◌, Bool, true, false, not, List, filter, length, Option, Some, None, is_some, IfOk, IfSome, IsTrue, IsFalse, Ok, if◌then◌else◌}
use Rattle.dtx_values.specs.Outgoing.{Outgoing, written as put_out}
use Rattle.outside.specs.Faults.{Rose}
use Rattle.dtx_model.specs.Log.{CommitRecord, first_of, is_record_of, log_has}
use Rattle.dtx_model.specs.Promotes.{identifier_of}
use Rattle.dtx_model.specs.Coordinated.{Coordinated, follow_all, is_recorded, may_log}
use Rattle.dtx_model.specs.Steps.{LogAnswer, Done, Full, StoppedNow, StoppedBefore, coordinates}
use Rattle.dtx_model.specs.Caused.{may_coordinate}
use Rattle.coordinator_core.specs.Acting.{record_for}
use Rattle.coordinator_log.specs.Slots.{lowest_closed, open_records}
use Rattle.coordinator_log.specs.State.{LogState}
use Rattle.coordinator_log.specs.Stop.{after_calls, stop_in}

-- the records of the other transactions
abbrev pub of_others : ℕ → List CommitRecord → List CommitRecord
of_others id rs = filter (λ r. not (is_record_of id r)) rs

-- there is at most one record of this identifier
abbrev pub AtMostOne : ℕ → List CommitRecord → Type 0
AtMostOne id rs = length (filter (is_record_of id) rs) ≤ 1

-- what a transaction keeps as appended and what the log has of it tie: they are the same; or the log has none, and an append or a free was stopped since the last opening
abbrev pub Tie : Option CommitRecord → Bool → Option CommitRecord → Type 0
Tie ours unsure found = (found ≡ ours) ⊎ ((found ≡ None) × (unsure ≡ true))

-- The records fit what a transaction of this identifier keeps: the two tie, and there is at most one record of the identifier.
pub record IsFit (id : ℕ) (ours : Option CommitRecord) (unsure : Bool) (rs : List CommitRecord) : Type 0 where
  pub tie : Tie ours unsure (first_of id rs)
  pub one : AtMostOne id rs

-- the records of each image that a crash can leave are so
abbrev pub AreFit : (List ℕ → Type 0) → (List CommitRecord → Type 0) → Type 0
AreFit image fits = (c : List ℕ) → image c → IfOk (log_has c) fits

-- each image that a crash can leave is a log, of whichever records
abbrev pub AreLogs : (List ℕ → Type 0) → Type 0
AreLogs image = (c : List ℕ) → image c → (rs : List CommitRecord) × (log_has c ≡ Ok rs)

-- What a call of the transaction with this identifier leaves of an honest log, where this is what fits it before and after: where the log is up its records fit the
-- transaction; so do those of each image, where they did before; each image is a log, where each was before; and the records of each other transaction stay, in the log and in each image.
pub record Keeps {D : Type 0} (image : D → List ℕ → Type 0) (id : ℕ) (fit_before fit_after : List CommitRecord → Type 0) (from to : LogState D) : Type 0 where
  pub fits : IsTrue to.is_up → fit_after (open_records to.slots)
  pub imaged : AreFit (image from.disk) fit_before → AreFit (image to.disk) fit_after
  pub logs : AreLogs (image from.disk) → AreLogs (image to.disk)
  pub others : of_others id (open_records to.slots) ≡ of_others id (open_records from.slots)
  pub others_imaged : (c : List ℕ) → image to.disk c → image from.disk c ⊎ IfOk (log_has c) (λ rs. of_others id rs ≡ of_others id (open_records from.slots))

-- the log has a record of this identifier, where it is up and one is kept
abbrev pub HasKept : {D : Type 0} → ℕ → Option CommitRecord → LogState D → Type 0
HasKept id ours log = IsTrue log.is_up → is_some ours ≡ true → first_of id (open_records log.slots) ≢ None

-- What an act leaves of the records that the log keeps in memory, by the identifier of its transaction and what that keeps before and after it: those of each other
-- transaction are the same, and its own is there where it was.
pub record LeavesSlots {D : Type 0} (id : ℕ) (kept_before kept_after : Option CommitRecord) (from to : LogState D) : Type 0 where
  pub others : of_others id (open_records to.slots) ≡ of_others id (open_records from.slots)
  pub had : HasKept id kept_before from → HasKept id kept_after to

-- how many device calls the coordinator's act makes at the log: an append writes and syncs twice, a free once
abbrev pub act_calls : Coordinated → ℕ
act_calls k = if may_log k then 4 else 2

-- What the log answered to the act of the coordinator k of a transaction, by its identifier, with its cause: it was stopped by this call exactly where it was up and isn't
-- any more, and by a fault unless a stop was armed, which is armed no more unless a fault came; it was found stopped exactly where it wasn't up, or in another life than the
-- coordinator's; and it is full only where no gate is closed. Where the act was done, an armed stop counted its device calls; a free of a record that isn't there makes none.
pub record Answered {D : Type 0} (faults : D → ℕ) (k : Coordinated) (id life : ℕ) (from to : LogState D) (a : LogAnswer) : Type 0 where
  pub now : (a ≡ StoppedNow) ↔ (IsTrue from.is_up × IsFalse to.is_up)
  pub before : (a ≡ StoppedBefore) ↔ (IsFalse from.is_up ⊎ (life ≢ from.life))
  pub full : a ≡ Full → lowest_closed from.slots ≡ 1024
  pub smooth : a ≢ StoppedNow → faults to.disk ≡ faults from.disk
  pub cause : a ≡ StoppedNow → stop_in (act_calls k) from.armed ≡ None → Rose (faults from.disk) (faults to.disk)
  pub used : a ≡ StoppedNow → Rose (faults from.disk) (faults to.disk) ⊎ (to.armed ≡ None)
  pub counted : a ≡ Done → (may_log k ≡ true) ⊎ (first_of id (open_records from.slots) ≢ None)
      → (stop_in (act_calls k) from.armed ≡ None) × (to.armed ≡ after_calls (act_calls k) from.armed)
  pub unchanged : a ≢ Done → a ≢ StoppedNow → to ≡ from

-- what a coordinator keeps of the log: its record, whether the log was stopped under it, and the life of the log that it lives in
pub record Kept : Type 0 where
  pub ours : Option CommitRecord
  pub unsure : Bool
  pub life : ℕ

-- What the coordinator k of transaction t keeps of the log after its act there, by what the log answered: the record that it appended, none once that is freed, and where
-- the act stopped the log, the record that it tried to append or to free, which may be lost then. It keeps what it kept where the log was full or stopped before: nothing was tried.
abbrev pub kept_after : ℕ → Coordinated → LogAnswer → Kept → Kept
kept_after t k Done x = record { ours = (if may_log k then Some (record_for t k) else None); unsure = x.unsure; life = x.life }
kept_after t k StoppedNow x = record { ours = (if may_log k then Some (record_for t k) else x.ours); unsure = true; life = x.life }
kept_after t k Full x = x
kept_after t k StoppedBefore x = x

-- What is kept is what the coordinator knows: while it isn't stopped, there is a record exactly where it was logged and wasn't freed, and nothing is unsure. A record
-- has the transaction's identifier.
pub record IsOurs (id : ℕ) (k : Coordinated) (x : Kept) : Type 0 where
  pub sure : k.stopped ≡ false → x.unsure ≡ false
  pub recorded : k.stopped ≡ false → is_some x.ours ≡ is_recorded k.stage
  pub named : IfSome x.ours (λ r. r.id ≡ id)

-- the coordinator k of transaction t, which kept x of the log, did its act there: the log answered so, and then it keeps y
pub record Acts {D : Type 0} (faults : D → ℕ) (t : ℕ) (k : Coordinated) (x : Kept) (out : Outgoing) (from : LogState D) (after_it : Coordinated) (y : Kept) (out_after : Outgoing) (to : LogState D) : Type 0 where
  pub answer : LogAnswer
  pub may : may_coordinate k answer ≡ true
  pub state : after_it ≡ follow_all k (coordinates k answer)
  pub written : out_after ≡ put_out out (coordinates k answer)
  pub answered : Answered faults k (identifier_of t) x.life from to answer
  pub kept : y ≡ kept_after t k answer x
