-- What the top call promises.
use Rattle.std.specs.Prelude.{ℕ, ◌≡◌, Bool, true, false, List, ◌++◌, Option, Some, IsTrue}
use Rattle.std.specs.Option.{ForSome}
use Rattle.dtx_values.specs.declared.script.Line.{Line}
use Rattle.dtx_model.specs.AtLog.{has_log_line}
use Rattle.dtx_model.specs.Grammar.{IsScript, Reads}
use Rattle.dtx_model.specs.Traces.{Placed}
use Rattle.dtx_model.specs.Words.{each}
use Rattle.program_words.specs.declared.command.Form.{Form}
use Rattle.thread_runs.specs.Run.{EndsOnThreads, IsRunOnThreads}
use Rattle.replay_runs.specs.Ending.{IsLogOf}
use Rattle.replay_runs.specs.Lawful.{IsLawful}
use Rattle.replay_runs.specs.Run.{IsRunOf}
use Rattle.trace_text.specs.OneTrace.{is_carried_at, is_frame_typed_at, is_got_carried_at, is_typed_at}
pub use Rattle.program_io.specs.FormText.{form_text}
use Rattle.program_io.specs.Transfer.{IsPartWritten}
use Rattle.program_io.specs.declared.way.Way.{Way}
use Rattle.program_io.specs.declared.way.Way.TheVariants.{Replay as ReplayWay, Threads as ThreadsWay}

-- T is a run of the script s in the order of a replay in which the first k managers have an object, over a disk that is honest or not, whose count of faults was `from` before and is `to` now: it is a settled history of the script, and keeps the
-- laws of every run. Where the disk is honest, the log that each image holds has the records that the trace says.
pub record IsReplayOf (k from to : ℕ) (honest : Bool) (image : List ℕ → Type 0) (s : List Line) (T : List Placed) : Type 0 where
  pub run : IsRunOf s k from to honest T
  pub lawful : IsLawful honest true s T
  pub log : IsTrue honest → IsLogOf image T

-- The same of a run on threads: each actor's calls are in the order of its lines, at each place, and those of two actors come in any order; all else is as in a replay. The log that each image holds has, where the trace leaves it up, one record of
-- each transaction that has one by the trace; and whether it is up or not, the script's transactions alone, each at most once.
pub record IsThreadsOf (k from to : ℕ) (honest : Bool) (image : List ℕ → Type 0) (s : List Line) (T : List Placed) : Type 0 where
  pub run : IsRunOnThreads s k from to T
  pub lawful : IsLawful honest true s T
  pub log : IsTrue honest → EndsOnThreads s image T

-- T is a run of this way: a replay, or one on threads
abbrev pub IsRunBy : Way → ℕ → ℕ → ℕ → Bool → (List ℕ → Type 0) → List Line → List Placed → Type 0
IsRunBy ReplayWay = IsReplayOf
IsRunBy (ThreadsWay h) = IsThreadsOf

-- There is a run as P says, of the script that the source gave, where it tells its bytes, and of some script where it tells nothing; and this holds of the script and its trace. The numbers of the trace are those of their types, and each of its messages is one
-- that its connection carries: so its text, but for a summary and for why, is that of no other such trace, up to what a message's line leaves out.
pub record HasRun (P : List Line → List Placed → Type 0) (given : Option (List ℕ)) (holds : List Line → List Placed → Type 0) : Type 0 where
  pub lines : List Line
  pub trace : List Placed
  pub read : ForSome given (λ b. Reads b lines)
  pub script : IsScript lines
  pub ran : P lines trace
  pub typed : each is_typed_at trace ≡ true
  pub frame_typed : each is_frame_typed_at trace ≡ true
  pub carried : each is_carried_at trace ≡ true
  pub got_carried : each is_got_carried_at trace ≡ true
  pub gained : holds lines trace

-- there is such a run, and the sink, where it tells what was written, gained exactly the text of its trace in this form
abbrev pub IsWritten : (P : List Line → List Placed → Type 0) → Form → (given before after : Option (List ℕ)) → Type 0
IsWritten P f given before after = HasRun P given (λ s T. ForSome before (λ w. after ≡ Some (w ++ form_text f s T)))

-- the same, but the sink gained a part of the text and not all of it
abbrev pub IsCutShort : (P : List Line → List Placed → Type 0) → Form → (given before after : Option (List ℕ)) → Type 0
IsCutShort P f given before after = HasRun P given (λ s T. ForSome before (λ w. IsPartWritten w (form_text f s T) after))

-- each script that the input may be has no line that stops the log or opens it again
abbrev pub HasNoLogLine : Option (List ℕ) → Type 0
HasNoLogLine given = (s : List Line) → IsScript s → ForSome given (λ b. Reads b s) → has_log_line s ≡ false
