-- What is said of the calls of a trace that had to wait.
use Rattle.std.specs.Prelude.{List}
use Rattle.dtx_values.specs.declared.number.TxNo.{TxNo}
use Rattle.dtx_values.specs.declared.script.Line.{Line}
use Rattle.dtx_model.specs.Traces.{Placed, history}
use Rattle.dtx_model.specs.Words.{past_of}
use Rattle.outcome_law.specs.Waited.{AreCallsAnswered}

-- in each transaction that is settled each call that was answered `wait` got its answer, or an enlistment that was asked to promote stays silent
abbrev pub AreWaitsAnswered : List Line → List Placed → Type 0
AreWaitsAnswered s T = (t : TxNo) → AreCallsAnswered s (history t.value (past_of T))
