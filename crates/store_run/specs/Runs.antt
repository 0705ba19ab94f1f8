-- What a run over one store leaves.
use Rattle.std.specs.Prelude.{ℕ, ◌≡◌, ◌≤◌, ◌&&◌, Bool, List, length}
use Rattle.dtx_values.specs.declared.number.RmNo.{RmNo}
use Rattle.dtx_values.specs.declared.script.Line.{Line}
use Rattle.dtx_model.specs.Caused.{Manager}
use Rattle.dtx_model.specs.Traces.{Placed}
use Rattle.dtx_model.specs.Words.{past_of}
use Rattle.heard_notes.specs.Puts.{putters}
use Rattle.heard_notes.specs.Tables.{AreWilling, table_after}
use Rattle.heard_notes.specs.declared.put.Put.{Put}
use Rattle.turn_parts.specs.Runs.{AreTied}
use Rattle.replay_runs.specs.Run.{IsRunOfBy}
use Rattle.replay_runs.specs.Lawful.{IsLawful}

-- T is a run of the script in which all durables and promotables of manager r have an object, over a disk that is honest or not and whose log had no record or had one, and whose count of faults was `from` before and is `to` now. Where
-- each restart in it found what may be found, the rows are the table of the puts of those that committed; and where at most 1,024 enlistments have puts, each of that manager's was willing.
pub record IsTableRun (s : List Line) (r : RmNo) (ps : List Put) (from to : ℕ) (is_honest is_fresh : Bool) (rows : List (ℕ × ℕ)) (T : List Placed) : Type 0 where
  pub ran : IsRunOfBy s (Manager r) from to (is_honest && is_fresh) T
  pub lawful : IsLawful is_honest is_fresh s T
  pub table : AreTied T → rows ≡ table_after (Manager r) (past_of T) ps
  pub willing : AreTied T → length (putters ps) ≤ 1024 → AreWilling s (Manager r) ps (past_of T)
