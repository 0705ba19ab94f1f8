-- The log at the end of a run.
use Rattle.std.specs.Prelude.{ℕ, ◌==◌, ◌≡◌, ◌≤◌, ◌⊎◌, ◌&&◌, ◌||◌, Bool, true, false, IsTrue, List, [], ◌∷◌, filter, length, if◌then◌else◌}
use Rattle.dtx_values.specs.declared.entry.Entry.{Entry}
use Rattle.dtx_values.specs.declared.entry.Entry.TheVariants.{Restarted}
use Rattle.dtx_values.specs.declared.message.Info.{Info}
use Rattle.dtx_values.specs.declared.number.TxNo.{TxNo}
use Rattle.dtx_model.specs.AtLog.{is_known, is_log_up}
use Rattle.dtx_model.specs.Log.{CommitRecord, is_record_of}
use Rattle.dtx_model.specs.Promotes.{identifier_of}
use Rattle.dtx_model.specs.Entries.{is_record}
use Rattle.dtx_model.specs.Observed.{observe}
use Rattle.dtx_model.specs.World.{is_finished_there}
use Rattle.dtx_model.specs.Tied.{enlist_got, has_mark, is_done_there, is_tied}
use Rattle.dtx_model.specs.Traces.{Placed, history}
use Rattle.dtx_model.specs.Words.{all_of, each, has, past_of}
use Rattle.coordinator_log.specs.Crash.{AllHold}
use Rattle.coordinator_log.specs.Slots.{open_records}
use Rattle.coordinator_log.specs.State.{LogState}
use Rattle.tx_world.specs.Recorded.{record_after}
use Rattle.turn_parts.specs.Runs.{EachHolds, records_of}
use Rattle.replay_runs.specs.LogRun.{AreForeignSame}

-- no record is one of a script's transactions
abbrev pub HasNone : List CommitRecord → Type 0
HasNone rs = (t : TxNo) → records_of t.value rs ≡ []

-- a record names this enlistment, by its manager and its number
abbrev pub names : Info → CommitRecord → Bool
names i r = has (λ p. (i.rm.value == p.0) && (i.enl.value == p.1)) r.enlistments

-- Each enlistment whose ENLIST the coordinator got in this history is done with the record there, or one of these records names it. So one that said PREPARED is named, as long as no acknowledgement of it came since the last
-- restart and its manager hasn't recovered.
abbrev pub are_named : List Entry → List CommitRecord → Bool
are_named h rs = each (λ i. is_done_there h i || has (names i) rs) (all_of enlist_got h)

-- The same, but one that is finished at its own side, since it acknowledged or was handed the commit, need not be named.
abbrev pub are_ever_named : List Entry → List CommitRecord → Bool
are_ever_named h rs = each (λ i. is_done_there h i || is_finished_there (observe h) i.enl.value || has (names i) rs) (all_of enlist_got h)

-- The records of a log that is up, where T is the trace, newest first: of each transaction there is one where the last of `logged`, `freed`, `restarted found` and `restarted none` is `logged` or `restarted found`, and else
-- none; it is the one that its coordinator writes, and names each that said PREPARED and isn't done with it; where `logged` or `restarted found` ever came, each that said PREPARED, isn't done with it and isn't finished at its
-- own side is named; and those that are no transaction's are as they were before.
pub record AreRecorded (T : List Placed) (before rs : List CommitRecord) : Type 0 where
  pub recorded : (t : TxNo) → length (records_of t.value rs) ≡ (if has_mark (history t.value T) then 1 else 0)
  pub written : (t : TxNo) → has_mark (history t.value T) ≡ true → records_of t.value rs ≡ record_after t.value (history t.value T) ∷ []
  pub named : (t : TxNo) → has_mark (history t.value T) ≡ true → are_named (history t.value T) (records_of t.value rs) ≡ true
  pub ever : (t : TxNo) → has is_record (history t.value T) ≡ true → are_ever_named (history t.value T) (records_of t.value rs) ≡ true
  pub others : AreForeignSame before rs

-- The records of a log that is stopped, in some image that a crash can leave: of each transaction there is one at most, and none of one of which the coordinator doesn't know; a restart that finds them finds in each transaction what may
-- be found there; it is the one that its coordinator writes; where there is a record by the history, or ever was one, those that said PREPARED are named as in a log that is up; and those that are no transaction's are as they
-- were before.
pub record MayBeRecorded (T : List Placed) (before rs : List CommitRecord) : Type 0 where
  pub one : (t : TxNo) → length (records_of t.value rs) ≤ 1
  pub written : (t : TxNo) → (records_of t.value rs ≡ []) ⊎ (records_of t.value rs ≡ record_after t.value (history t.value T) ∷ [])
  pub named : (t : TxNo) → has_mark (history t.value T) ≡ true → are_named (history t.value T) (records_of t.value rs) ≡ true
  pub ever : (t : TxNo) → has is_record (history t.value T) ≡ true → are_ever_named (history t.value T) (records_of t.value rs) ≡ true
  pub known : (t : TxNo) → is_known T t ≡ false → records_of t.value rs ≡ []
  pub found : (t : TxNo) → is_tied (history t.value T) (Restarted (has (is_record_of (identifier_of t.value)) rs)) ≡ true
  pub others : AreForeignSame before rs

-- The log at the end of a run over an honest disk: where it is up, each image has its records, and they are those of the trace; and where it is stopped, the records of each image are some that may be there.
pub record EndsAs {D : Type 0} (image : D → List ℕ → Type 0) (before : List CommitRecord) (log : LogState D) (T : List Placed) : Type 0 where
  pub up : IsTrue log.is_up → AllHold (image log.disk) (open_records log.slots) × AreRecorded T before (open_records log.slots)
  pub stopped : EachHolds (image log.disk) (MayBeRecorded T before)

-- The log at the end, as its images have it, where it was empty before: where the trace leaves the log up, each image has the same records, those of the trace's transactions and no others; and else the records of each are some that may be there.
pub record IsLogOf (image : List ℕ → Type 0) (T : List Placed) : Type 0 where
  pub up : is_log_up (past_of T) ≡ true → (rs : List CommitRecord) × AllHold image rs × AreRecorded (past_of T) [] rs
  pub stopped : EachHolds image (MayBeRecorded (past_of T) [])

-- each record is one of a script's transactions
abbrev pub AreOfTransactions : List CommitRecord → Type 0
AreOfTransactions rs = (id : ℕ) → ((t : TxNo) → identifier_of t.value ≡ id → ⊥) → filter (is_record_of id) rs ≡ []

-- each image that a crash can leave is a log, and each of its records is of a script's transaction
abbrev pub AreOwnLogs : (List ℕ → Type 0) → Type 0
AreOwnLogs image = EachHolds image AreOfTransactions

-- each image that a crash can leave holds the same records, each of a script's transactions
abbrev pub IsLog : (List ℕ → Type 0) → Type 0
IsLog image = (rs : List CommitRecord) × AllHold image rs × AreOfTransactions rs
