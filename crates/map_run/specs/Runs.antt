-- What a run over one map leaves.
use Rattle.std.specs.Prelude.{ℕ, ◌≡◌, ◌&&◌, Bool, List}
use Rattle.dtx_values.specs.declared.script.Line.{Line}
use Rattle.dtx_model.specs.Caused.{Volatiles}
use Rattle.dtx_model.specs.Traces.{Placed}
use Rattle.dtx_model.specs.Words.{past_of}
use Rattle.heard_notes.specs.Tables.{AreWilling, table_after}
use Rattle.heard_notes.specs.declared.put.Put.{Put}
use Rattle.turn_parts.specs.Runs.{AreTied}
use Rattle.replay_runs.specs.Run.{IsRunOfBy}
use Rattle.replay_runs.specs.Lawful.{IsLawful}

-- T is a run of the script in which all volatiles have an object, over a disk that is honest or not and whose log had no record or had one, and whose count of faults was `from` before and is `to` now. Where each restart in it found what may be
-- found, the rows are the table of the puts of those that committed, and each volatile that voted said yes where it has puts and done where it has none.
pub record IsTableRun (s : List Line) (ps : List Put) (from to : ℕ) (is_honest is_fresh : Bool) (rows : List (ℕ × ℕ)) (T : List Placed) : Type 0 where
  pub ran : IsRunOfBy s Volatiles from to (is_honest && is_fresh) T
  pub lawful : IsLawful is_honest is_fresh s T
  pub table : AreTied T → rows ≡ table_after Volatiles (past_of T) ps
  pub willing : AreTied T → AreWilling s Volatiles ps (past_of T)
