-- The laws that each run of a script keeps, a replay and one on threads alike.
use Rattle.std.specs.Prelude.{◌≡◌, Bool, false, List, IsTrue}
use Rattle.dtx_values.specs.declared.script.Line.{Line}
use Rattle.dtx_model.specs.AtLog.{at_log}
use Rattle.dtx_model.specs.History.{HasOneOutcome, IsComplete}
use Rattle.dtx_model.specs.Traces.{Placed}
use Rattle.dtx_model.specs.Words.{has, past_of}
use Rattle.turn_parts.specs.Runs.{AreTied, IsNeverFull}
use Rattle.turn_parts.specs.Reopening.{is_no_log_answer}
use Rattle.replay_runs.specs.Rights.{AreAppendsBacked, AreOutcomesWithheld, HasOneRight}
use Rattle.replay_runs.specs.Waits.{AreWaitsAnswered}

-- T, the trace of a run of the script s over a disk that is honest or not, and a log that had no record or may have had some, keeps the laws. Where each restart found what may be found, as on an honest disk and in each run without a restart: what is told is just, nobody is told the opposite of what another is told, and who comes back learns the logged outcome; each transaction that can commit
-- is committed; where commit was asked, the client was told an outcome, or there is something that the transaction waits for (`told`); and each call that was answered `wait` got its answer, or an enlistment that was asked to promote stays silent. And so the right to commit
-- is in one place, an append is tried only where the transaction is ready, and after it was aborted none is, and from a stop that leaves the record unknown to the restart after it nobody is told. Where the disk is honest, each restart finds a log,
-- and where the log had no record, it is never full.
pub record IsLawful (honest is_fresh : Bool) (s : List Line) (T : List Placed) : Type 0 where
  pub tied : IsTrue honest → AreTied T
  pub outcome : AreTied T → HasOneOutcome T
  pub complete : AreTied T → IsComplete s T
  pub waited : AreTied T → AreWaitsAnswered s T
  pub rights : AreTied T → HasOneRight T
  pub appends : AreTied T → AreAppendsBacked T
  pub stops : AreTied T → AreOutcomesWithheld T
  pub unlike : IsTrue honest → has is_no_log_answer (at_log (past_of T)) ≡ false
  pub unfilled : IsTrue honest → IsTrue is_fresh → IsNeverFull T
