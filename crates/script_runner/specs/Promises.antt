-- What the top call promises of each command.
use Rattle.std.specs.Prelude.{ℕ, ◌+◌, ◌≡◌, ◌≢◌, ◌⊎◌, ◌++◌, List, [], drop, Err, Option, Some, IsTrue}
use Rattle.std.specs.Option.{ForSome}
use Rattle.dtx_values.specs.declared.limits.TheConstants.{SCRIPT_BYTES}
use Rattle.dtx_values.specs.declared.number.RmNo.{RmNo}
use Rattle.dtx_values.specs.declared.script.BadCause.{BadCause}
use Rattle.dtx_values.specs.declared.script.Line.{Line}
use Rattle.dtx_model.specs.Caused.{Manager, Volatiles}
use Rattle.dtx_model.specs.Faults.{Bad}
use Rattle.dtx_model.specs.Log.{log_has}
use Rattle.dtx_model.specs.Traces.{Placed}
use Rattle.program_io.specs.Judged.{HasDoAt, IsJudged}
use Rattle.program_io.specs.Listed.{HoldsSame, IsListed, IsListedInPart}
use Rattle.program_io.specs.Refusal.{IsGoodFor, IsOnThreads}
use Rattle.program_io.specs.TraceRead.{IsBadTraceLine, IsTraceWithin}
use Rattle.program_io.specs.Transfer.{IsPartWritten}
use Rattle.program_io.specs.Verdict.{verdict_text}
use Rattle.program_io.specs.declared.checking.TheConstants.{TRACE_BYTES}
use Rattle.program_io.specs.declared.exit.Exit.{Exit}
use Rattle.program_io.specs.declared.exit.Exit.TheVariants.{BadScript, BadTrace, Fine, LogFault, Memory, NotALog, NotThreadable, ReadFault, Usage, WriteFault}
use Rattle.program_io.specs.declared.way.Way.{Way}
use Rattle.program_io.specs.declared.way.Way.TheVariants.{Replay as ReplayWay, Threads as ThreadsWay}
use Rattle.program_words.specs.declared.command.Command.{Command}
use Rattle.program_words.specs.declared.command.Command.TheVariants.{Check, Demo, Log, Make, Map, Replay, Store, Threads}
use Rattle.program_words.specs.declared.command.Form.{Form}
use Rattle.program_words.specs.declared.command.Form.TheVariants.{Summary}
use Rattle.replay_runs.specs.Ending.{AreOwnLogs, IsLog}
use Rattle.replay_runs.specs.LogRun.{MetNoFault}
use Rattle.script_maker.specs.Gen.{gen}
use Rattle.trace_checker.specs.Keeps.{IsChecked}
use Rattle.trace_checker.specs.declared.checked.Checked.{Checked}
pub use Rattle.script_runner.specs.Devices.{ComesUnlessUnread, Devices, MetNoFaults, Telling, TellsFaults, devices, telling}
use Rattle.script_runner.specs.Program.{HasNoLogLine, IsCutShort, IsRunBy, IsWritten}
use Rattle.script_runner.specs.Tables.{RunsTable}

-- The runs that the call may have done, this way, with this many managers that have an object: over the disk as it was, to the disk as it is.
abbrev pub IsRunOver : {S K D : Type 0} → Telling S K D → Way → ℕ → Devices S K D → Devices S K D → List Line → List Placed → Type 0
IsRunOver tell w k old new = IsRunBy w k (tell.disk_faults old.disk) (tell.disk_faults new.disk) tell.honest (tell.image new.disk)

-- What is written of a run. With Fine the text of the trace of a run of the input, whole: the headline. With a fault of the sink a part of it; where memory ran out a part of it, or nothing; and nothing where no script was run.
pub record WritesRun {K : Type 0} (written : K → Option (List ℕ)) (P : List Line → List Placed → Type 0) (f : Form) (given : Option (List ℕ)) (old : K) (exit : Exit) (new : K) : Type 0 where
  pub whole : exit ≡ Fine → IsWritten P f given (written old) (written new)
  pub cut_short : exit ≡ WriteFault → IsCutShort P f given (written old) (written new)
  pub memory : exit ≡ Memory → (new ≡ old) ⊎ IsCutShort P f given (written old) (written new)
  pub unwritten : (exit ≡ ReadFault) ⊎ ((exit ≡ LogFault) ⊎ IsJudged exit) → new ≡ old

-- How the input is judged. BadScript(n, c) comes exactly where line n is the first bad one and c its first cause, NotThreadable(n) exactly where threads were asked for and line n is the first `do` of the script; both after the input was read to its end, or one
-- byte past the longest script.
pub record JudgesInput {S K D : Type 0} (tell : Telling S K D) (w : Way) (old : Devices S K D) (exit : Exit) (new : Devices S K D) : Type 0 where
  pub read : exit ≡ Fine → ForSome (tell.left old.source) (λ b. tell.left new.source ≡ Some [])
  pub judged : IsJudged exit → ForSome (tell.left old.source) (λ b. tell.left new.source ≡ Some (drop (SCRIPT_BYTES + 1) b))
  pub bad : (n : ℕ) (c : BadCause) → exit ≡ BadScript n c → ForSome (tell.left old.source) (λ b. Bad b n c)
  pub bad_refused : (n : ℕ) (c : BadCause) → ForSome (tell.left old.source) (λ b. Bad b n c → ComesUnlessUnread (BadScript n c) exit)
  pub not_threadable : (n : ℕ) → exit ≡ NotThreadable n → IsOnThreads w × ForSome (tell.left old.source) (λ b. HasDoAt b n)
  pub do_refused : (n : ℕ) → IsOnThreads w → ForSome (tell.left old.source) (λ b. HasDoAt b n → ComesUnlessUnread (NotThreadable n) exit)

-- What is on the disk afterwards. An honest disk is as it was, or each image is a log whose records are all of a script's transactions; where memory ran out under a replay that met no fault of the disk and whose script has no line for the log, all images have the same
-- ones. It is as it was where nothing was run.
pub record KeepsLogs {S K D : Type 0} (tell : Telling S K D) (w : Way) (old : Devices S K D) (exit : Exit) (new : Devices S K D) : Type 0 where
  pub logs : IsTrue tell.honest → exit ≢ LogFault → (new.disk ≡ old.disk) ⊎ AreOwnLogs (tell.image new.disk)
  pub given_up_whole : w ≡ ReplayWay → IsTrue tell.honest → exit ≡ Memory → MetNoFault tell.disk_faults old.disk new.disk → HasNoLogLine (tell.left old.source) → (new.disk ≡ old.disk) ⊎ IsLog (tell.image new.disk)
  pub untouched : (exit ≡ ReadFault) ⊎ IsJudged exit → new.disk ≡ old.disk

-- `replay` and `threads`: the script is read from the source, and run this way over the disk, which is made an empty log first; the text of its trace in this form goes to the sink. Where the input is a script that can be run so and nothing met a fault, it is done,
-- unless memory runs out.
pub record RunsScript {S K D : Type 0} (tell : Telling S K D) (w : Way) (f : Form) (k : ℕ) (old : Devices S K D) (exit : Exit) (new : Devices S K D) : Type 0 where
  pub writes : WritesRun tell.written (IsRunOver tell w k old new) f (tell.left old.source) old.sink exit new.sink
  pub input : JudgesInput tell w old exit new
  pub disk : KeepsLogs tell w old exit new
  pub faults : TellsFaults tell old exit new
  pub done : IsGoodFor w (tell.left old.source) → MetNoFaults tell old new → (exit ≡ Fine) ⊎ (exit ≡ Memory)
  pub asked : exit ≢ Usage
  pub unlisted : (p : ℕ) → exit ≢ NotALog p
  pub unchecked : (n : ℕ) → exit ≢ BadTrace n

-- `make N`: the made script goes to the sink, or a part of it, or nothing. Nothing is read, and the disk isn't touched.
pub record MakesScript {S K D : Type 0} (tell : Telling S K D) (n : ℕ) (old : Devices S K D) (exit : Exit) (new : Devices S K D) : Type 0 where
  pub made : exit ≡ Fine → ForSome (tell.written old.sink) (λ w. tell.written new.sink ≡ Some (w ++ gen n))
  pub short : (exit ≡ WriteFault) ⊎ (exit ≡ Memory) → (new.sink ≡ old.sink) ⊎ ForSome (tell.written old.sink) (λ w. IsPartWritten w (gen n) (tell.written new.sink))
  pub answers : (exit ≡ Fine) ⊎ ((exit ≡ WriteFault) ⊎ (exit ≡ Memory))
  pub unread : new.source ≡ old.source
  pub untouched : new.disk ≡ old.disk
  pub faults : TellsFaults tell old exit new
  pub done : MetNoFaults tell old new → (exit ≡ Fine) ⊎ (exit ≡ Memory)

-- `demo N`: the summary of a replay of the made script goes to the sink. Nothing is read.
pub record ShowsDemo {S K D : Type 0} (tell : Telling S K D) (n k : ℕ) (old : Devices S K D) (exit : Exit) (new : Devices S K D) : Type 0 where
  pub writes : WritesRun tell.written (IsRunOver tell ReplayWay k old new) Summary (Some (gen n)) old.sink exit new.sink
  pub answers : (exit ≡ Fine) ⊎ ((exit ≡ LogFault) ⊎ ((exit ≡ WriteFault) ⊎ (exit ≡ Memory)))
  pub unread : new.source ≡ old.source
  pub logs : IsTrue tell.honest → exit ≢ LogFault → (new.disk ≡ old.disk) ⊎ AreOwnLogs (tell.image new.disk)
  pub given_up_whole : IsTrue tell.honest → exit ≡ Memory → MetNoFault tell.disk_faults old.disk new.disk → (new.disk ≡ old.disk) ⊎ IsLog (tell.image new.disk)
  pub faults : TellsFaults tell old exit new
  pub done : MetNoFaults tell old new → (exit ≡ Fine) ⊎ (exit ≡ Memory)

-- `log`: the listing of the log that is on the disk goes to the sink. NotALog(p) comes exactly where p is the first place at which what the disk holds is none. Whatever comes, the disk holds what it held, and nothing is read of the source.
pub record ListsLog {S K D : Type 0} (tell : Telling S K D) (old : Devices S K D) (exit : Exit) (new : Devices S K D) : Type 0 where
  pub listed : exit ≡ Fine → IsListed tell.honest (tell.seen old.disk) (tell.written old.sink) (tell.written new.sink)
  pub short : exit ≡ WriteFault → IsListedInPart tell.honest (tell.seen old.disk) (tell.written old.sink) (tell.written new.sink)
  pub memory : exit ≡ Memory → (new.sink ≡ old.sink) ⊎ IsListedInPart tell.honest (tell.seen old.disk) (tell.written old.sink) (tell.written new.sink)
  pub unwritten : (exit ≡ LogFault) ⊎ ((p : ℕ) × (exit ≡ NotALog p)) → new.sink ≡ old.sink
  pub answers : (exit ≡ Fine) ⊎ ((exit ≡ LogFault) ⊎ ((exit ≡ WriteFault) ⊎ ((exit ≡ Memory) ⊎ ((p : ℕ) × (exit ≡ NotALog p)))))
  pub no_log : IsTrue tell.honest → (p : ℕ) → exit ≡ NotALog p → log_has (tell.seen old.disk) ≡ Err p
  pub no_log_refused : IsTrue tell.honest → (p : ℕ) → log_has (tell.seen old.disk) ≡ Err p → (exit ≡ NotALog p) ⊎ ((exit ≡ LogFault) ⊎ (exit ≡ Memory))
  pub unread : new.source ≡ old.source
  pub kept : IsTrue tell.honest → HoldsSame tell.seen tell.image old.disk new.disk
  pub size : tell.size new.disk ≡ tell.size old.disk
  pub faults : TellsFaults tell old exit new

-- the input, where it is told, is the text of a trace, a verdict on that trace is true, and this holds of the verdict's line
pub record HasVerdict (given : Option (List ℕ)) (holds : List ℕ → Type 0) : Type 0 where
  pub trace : List Placed
  pub verdict : Checked
  pub read : ForSome given (λ b. IsTraceWithin TRACE_BYTES b trace)
  pub checked : IsChecked trace verdict
  pub gained : holds (verdict_text verdict)

-- the input is the text of a trace that isn't too long
abbrev pub IsGoodTrace : Option (List ℕ) → Type 0
IsGoodTrace given = (b : List ℕ) × (T : List Placed) × (given ≡ Some b) × IsTraceWithin TRACE_BYTES b T

-- `check`: the trace is read from the source, and whether it is fine, or its first bad entry and what that loses, goes to the sink. BadTrace(n) comes exactly where line n is the first that isn't a line of a trace there, or that goes beyond the longest
-- trace, after the input was read to its end, or one byte past the longest trace. The disk isn't touched. Where the input is the text of a trace and nothing met a fault, it is done, unless memory runs out.
pub record ChecksTrace {S K D : Type 0} (tell : Telling S K D) (old : Devices S K D) (exit : Exit) (new : Devices S K D) : Type 0 where
  pub whole : exit ≡ Fine → HasVerdict (tell.left old.source) (λ text. ForSome (tell.written old.sink) (λ w. tell.written new.sink ≡ Some (w ++ text)))
  pub cut_short : exit ≡ WriteFault → HasVerdict (tell.left old.source) (λ text. ForSome (tell.written old.sink) (λ w. IsPartWritten w text (tell.written new.sink)))
  pub memory : exit ≡ Memory → (new.sink ≡ old.sink) ⊎ HasVerdict (tell.left old.source) (λ text. ForSome (tell.written old.sink) (λ w. IsPartWritten w text (tell.written new.sink)))
  pub unwritten : (exit ≡ ReadFault) ⊎ ((n : ℕ) × (exit ≡ BadTrace n)) → new.sink ≡ old.sink
  pub answers : (exit ≡ Fine) ⊎ ((exit ≡ ReadFault) ⊎ ((exit ≡ WriteFault) ⊎ ((exit ≡ Memory) ⊎ ((n : ℕ) × (exit ≡ BadTrace n)))))
  pub read : exit ≡ Fine → ForSome (tell.left old.source) (λ b. tell.left new.source ≡ Some [])
  pub judged : (n : ℕ) → exit ≡ BadTrace n → ForSome (tell.left old.source) (λ b. tell.left new.source ≡ Some (drop (TRACE_BYTES + 1) b))
  pub bad : (n : ℕ) → exit ≡ BadTrace n → ForSome (tell.left old.source) (λ b. IsBadTraceLine TRACE_BYTES b n)
  pub bad_refused : (n : ℕ) → ForSome (tell.left old.source) (λ b. IsBadTraceLine TRACE_BYTES b n → ComesUnlessUnread (BadTrace n) exit)
  pub untouched : new.disk ≡ old.disk
  pub faults : TellsFaults tell old exit new
  pub done : IsGoodTrace (tell.left old.source) → MetNoFaults tell old new → (exit ≡ Fine) ⊎ (exit ≡ Memory)

-- what the call does at a command, where the first k managers have an object
abbrev pub Does : {S K D : Type 0} → Telling S K D → Command → ℕ → Devices S K D → Exit → Devices S K D → Type 0
Does tell (Replay f) k = RunsScript tell ReplayWay f k
Does tell (Threads h f) k = RunsScript tell (ThreadsWay h) f k
Does tell (Make n) k = MakesScript tell n
Does tell (Demo n) k = ShowsDemo tell n k
Does tell Log k = ListsLog tell
Does tell Check k = ChecksTrace tell
Does tell Store k = λ old exit new. (r : RmNo) → r.value ≡ 1 → RunsTable tell (Manager r) old exit new
Does tell Map k = RunsTable tell Volatiles
