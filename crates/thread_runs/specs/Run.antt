-- A run of a script on threads, as its trace has it.
use Rattle.std.specs.Prelude.{ℕ, ◌≡◌, Bool, true, false, List, IsTrue, length, if◌then◌else◌}
use Rattle.dtx_values.specs.declared.number.TxNo.{TxNo}
use Rattle.dtx_values.specs.declared.script.Line.{Line}
use Rattle.dtx_model.specs.AtLog.{at_log, is_log_up}
use Rattle.dtx_model.specs.Log.{CommitRecord}
use Rattle.dtx_model.specs.Tied.{has_mark}
use Rattle.dtx_model.specs.Traces.{Placed, history}
use Rattle.dtx_model.specs.Words.{has, past_of}
use Rattle.coordinator_log.specs.Crash.{AllHold}
use Rattle.coordinator_log.specs.State.{LogState}
use Rattle.script_calls.specs.FirstCalls.{are_first, par_line}
use Rattle.call_order.specs.InOrder.{AreInActorOrder}
use Rattle.tx_cells.specs.LogAnswers.{is_no_log_answer}
pub use Rattle.turn_parts.specs.Runs.{AreTied, EachHolds, IsNeverFull, IsRise, IsRunHistory, records_of}
use Rattle.tx_cells.specs.LogCell.{AreOwn}

-- T is a run of the script on threads in which the first k managers have an object, over a disk whose count of faults was `from` before and is `to` now: it is a settled history of the script, and at each place the calls of each actor are those
-- that its lines make there, in order, and the calls of the lines before `par` come first there, in order of lines. (At a context, which is one actor's, that is so by the order of its lines.)
pub record IsRunOnThreads (s : List Line) (k from to : ℕ) (T : List Placed) : Type 0 where
  pub rise : ℕ
  pub risen : IsRise from to rise
  pub first : (t : TxNo) → are_first (par_line s) (history t.value (past_of T)) ≡ true
  pub first_at_log : are_first (par_line s) (at_log (past_of T)) ≡ true
  pub history : IsRunHistory s k rise T
  pub ordered : AreInActorOrder s T

-- The records of a log that is up, where T is the trace, newest first: of each transaction there is one where the last of `logged`, `freed`, `restarted found` and `restarted none` is `logged` or `restarted found`, and else none.
abbrev pub AreMarked : List Placed → List CommitRecord → Type 0
AreMarked T rs = (t : TxNo) → length (records_of t.value rs) ≡ (if has_mark (history t.value T) then 1 else 0)

-- The log at the end of a run of the script s on threads, as its images have it: where the trace leaves the log up, each image has the same records, one of each transaction that has one by the trace; and each image, whether the log is up or not, is
-- a log of the script's transactions alone, with at most one record of each.
pub record EndsOnThreads (s : List Line) (image : List ℕ → Type 0) (T : List Placed) : Type 0 where
  pub up : is_log_up (past_of T) ≡ true → (rs : List CommitRecord) × AllHold image rs × AreMarked (past_of T) rs
  pub own : EachHolds image (AreOwn s)

-- What a run of the script s on threads came to, in which the first k managers have an object, and before which the disk's count of faults was `from`: T is its trace, and `to` the log after it, which is up exactly where the trace says so. On an honest
-- disk each restart in the trace found what may be found, and found a log, and no append found the log full; and the log ends as the trace says.
pub record RanOnThreads {D : Type 0} (faults : D → ℕ) (honest : Bool) (image : D → List ℕ → Type 0) (s : List Line) (k from : ℕ) (to : LogState D) (T : List Placed) : Type 0 where
  pub run : IsRunOnThreads s k from (faults to.disk) T
  pub tied : IsTrue honest → AreTied T
  pub up : to.is_up ≡ is_log_up (past_of T)
  pub ended : IsTrue honest → EndsOnThreads s (image to.disk) T
  pub unlike : IsTrue honest → has is_no_log_answer (at_log (past_of T)) ≡ false
  pub unfilled : IsTrue honest → IsNeverFull T
