-- What lies under the log's lock, and what its type keeps.
use Rattle.std.specs.Prelude.{ℕ, ◌+◌, ◌^◌, ◌==◌, ◌≡◌, ◌≤◌, Bool, true, false, List, length, IsTrue}
use Rattle.dtx_values.specs.declared.entry.Entry.{Entry}
use Rattle.dtx_values.specs.declared.script.Line.{Line}
use Rattle.dtx_model.specs.AtLog.{is_called, is_up_by}
use Rattle.dtx_model.specs.Log.{CommitRecord}
use Rattle.dtx_model.specs.Promotes.{identifier_of}
use Rattle.dtx_model.specs.Words.{each, has}
use Rattle.coordinator_log.specs.Slots.{open_records}
use Rattle.coordinator_log.specs.State.{LogState}
use Rattle.script_calls.specs.Prefix.{IsLogPrefix}
use Rattle.script_calls.specs.SeenRow.{SeenRow}
use Rattle.script_calls.specs.declared.calls.LogCall.{LogCall}
use Rattle.tx_world.specs.AtLog.{AreFit, AreLogs, AtMostOne}
pub use Rattle.turn_parts.specs.Counted.{AreCounted, LAST, is_left}
use Rattle.turn_parts.specs.LogEvents.{IsLogHistory}
use Rattle.tx_cells.specs.Board.{transactions_of}
use Rattle.tx_cells.specs.Cell.{IsThreadable}
use Rattle.tx_cells.specs.LogAnswers.{is_no_log_answer}

-- the log; for each actor its calls there, and how many of them were entered; and the entries at the log, newest first
pub record LogCell (D : Type 0) : Type 0 where
  pub log : LogState D
  pub rows : List (SeenRow LogCall)
  pub past : List Entry

-- the identifier of a transaction of the run
abbrev pub is_own : List Line → CommitRecord → Bool
is_own s r = has (λ t. r.id == identifier_of t) (transactions_of s)

-- the records are only those of the run's transactions, each at most once
pub record AreOwn (s : List Line) (rs : List CommitRecord) : Type 0 where
  pub own : each (is_own s) rs ≡ true
  pub once : (id : ℕ) → AtMostOne id rs

-- What the log's cell keeps in a run of the script s whose disk tells what it holds where `tells` says so, and whose count of faults was `before` at the start: of each actor's calls there those
-- that were entered are the first ones, in order; its entries are those of what came there in turn; each stop has its cause, and each fault that is told of rose the count; the log is up exactly where its entries say so, and a call isn't the last of them then; over an honest disk no
-- restart found other bytes than a log's; and then the records of the log, where it is up, and of each image that a crash can leave, are only the run's, each at most once, and each such image is a log.
pub record IsLogKept {D : Type 0} (faults : D → ℕ) (honest : Bool) (image : D → List ℕ → Type 0) (s : List Line) (tells : Bool) (before : ℕ) (x : LogCell D) : Type 0 where
  pub script : IsThreadable s
  pub in_order : IsLogPrefix s x.rows x.past
  pub events : IsLogHistory s x.past
  pub honest_is : honest ≡ tells
  pub counted : AreCounted before (faults x.log.disk) x.log.armed x.past
  pub up : is_up_by x.past ≡ x.log.is_up
  pub uncalled : IsTrue x.log.is_up → is_called x.past ≡ false
  pub life : x.log.life ≤ 2 ^ 62 + length x.past
  pub unlike : IsTrue honest → has is_no_log_answer x.past ≡ false
  pub held : IsTrue honest → IsTrue x.log.is_up → AreOwn s (open_records x.log.slots)
  pub imaged : IsTrue honest → AreFit (image x.log.disk) (AreOwn s)
  pub logs : IsTrue honest → AreLogs (image x.log.disk)
