-- What is promised of a run over a table.
use Rattle.std.specs.Prelude.{ℕ, ◌+◌, ◌≡◌, ◌≢◌, ◌≤◌, ◌⊎◌, ◌++◌, Bool, true, false, IsTrue, List, [], drop, length, Option, Some}
use Rattle.std.specs.Option.{ForSome}
use Rattle.dtx_values.specs.declared.limits.TheConstants.{SCRIPT_BYTES}
use Rattle.dtx_values.specs.declared.script.BadCause.{BadCause}
use Rattle.dtx_values.specs.declared.script.Line.{Line}
use Rattle.dtx_model.specs.AtLog.{has_log_line}
use Rattle.dtx_model.specs.Caused.{Of, Volatiles}
use Rattle.dtx_model.specs.Grammar.{IsScript}
use Rattle.dtx_model.specs.Traces.{Placed}
use Rattle.dtx_model.specs.Words.{past_of}
use Rattle.heard_notes.specs.Puts.{putters}
use Rattle.heard_notes.specs.Tables.{AreWilling, table_after, table_text}
use Rattle.heard_notes.specs.declared.put.Put.{Put}
use Rattle.put_lines.specs.Input.{IsRefused, ReadsInput}
use Rattle.turn_parts.specs.Runs.{AreTied}
use Rattle.replay_runs.specs.Ending.{AreOwnLogs, IsLog}
use Rattle.replay_runs.specs.Lawful.{IsLawful}
use Rattle.replay_runs.specs.LogRun.{MetNoFault}
use Rattle.replay_runs.specs.Run.{IsRunOfBy}
use Rattle.program_io.specs.Transfer.{IsPartWritten}
use Rattle.program_io.specs.declared.exit.Exit.{Exit}
use Rattle.program_io.specs.declared.exit.Exit.TheVariants.{BadScript, Fine, LogFault, Memory, ReadFault, WriteFault}
use Rattle.script_runner.specs.Devices.{ComesUnlessUnread, Devices, MetNoFaults, Telling, TellsFaults}

-- `o` says whose notes the table hears: those of the durables and promotables of a manager, whose table is a key store, or those of all volatiles, whose table is a map. So many keys may be put for an enlistment
abbrev pub most_keys : Of → ℕ
most_keys Volatiles = 1000
most_keys _ = 40

-- each enlistment with puts has its slot, of which a store has 1,024; a map takes any number
abbrev pub HasSlots : Of → List Put → Type 0
HasSlots Volatiles ps = Unit {0}
HasSlots _ ps = length (putters ps) ≤ 1024

-- T is a run of the script in which those enlistments have the table as their object, over a disk that is honest or not, whose count of faults was `from` before and is `to` now, and keeps the laws of every run; the rows are the table of the puts of
-- those that committed; and where each has its slot, each answered as its puts say: yes with puts and done without, and willing in all else.
pub record IsTableOf (o : Of) (s : List Line) (ps : List Put) (from to : ℕ) (honest : Bool) (rows : List (ℕ × ℕ)) (T : List Placed) : Type 0 where
  pub ran : IsRunOfBy s o from to honest T
  pub lawful : IsLawful honest true s T
  pub table : AreTied T → rows ≡ table_after o (past_of T) ps
  pub willing : AreTied T → HasSlots o ps → AreWilling s o ps (past_of T)

-- There are puts and a script, which are the input where it is told, and a run of it over the table; and this holds of the text of the rows that it leaves.
pub record HasTable (o : Of) (from to : ℕ) (honest : Bool) (given : Option (List ℕ)) (holds : List ℕ → Type 0) : Type 0 where
  pub puts : List Put
  pub lines : List Line
  pub rows : List (ℕ × ℕ)
  pub trace : List Placed
  pub read : ForSome given (λ b. ReadsInput (most_keys o) o b puts lines)
  pub script : IsScript lines
  pub ran : IsTableOf o lines puts from to honest rows trace
  pub gained : holds (table_text rows)

-- the sink, where it tells what was written, gained exactly the text of the rows of such a run; or a part of it and not all
abbrev pub GainsTable : Of → ℕ → ℕ → Bool → (given before after : Option (List ℕ)) → Type 0
GainsTable o from to honest given before after = HasTable o from to honest given (λ text. ForSome before (λ w. after ≡ Some (w ++ text)))

abbrev pub GainsTablePart : Of → ℕ → ℕ → Bool → (given before after : Option (List ℕ)) → Type 0
GainsTablePart o from to honest given before after = HasTable o from to honest given (λ text. ForSome before (λ w. IsPartWritten w text after))

-- the input is puts and a script
abbrev pub IsGoodInput : Of → Option (List ℕ) → Type 0
IsGoodInput o given = (b : List ℕ) × (ps : List Put) × (s : List Line) × (given ≡ Some b) × ReadsInput (most_keys o) o b ps s

-- each script that may come after the puts of the input has no line that stops the log or opens it again
abbrev pub HasNoLogLineAfterPuts : Of → Option (List ℕ) → Type 0
HasNoLogLineAfterPuts o given = (ps : List Put) (s : List Line) → IsScript s → ForSome given (λ b. ReadsInput (most_keys o) o b ps s) → has_log_line s ≡ false

-- the answer is that a line is bad
abbrev pub IsBadScript : Exit → Type 0
IsBadScript x = (n : ℕ) × (c : BadCause) × (x ≡ BadScript n c)

-- `store` and `map`: puts and a script are read from the source, the script is replayed over the disk, which is made an empty log first, with a new table that has the puts, and the text of the rows that it leaves goes to the sink. BadScript(n, c) comes exactly where
-- line n of the input is the one that is refused and c its cause, after the input was read to its end, or one byte past the longest. Where the input is good and nothing met a fault, it is done, unless memory runs out.
pub record RunsTable {S K D : Type 0} (tell : Telling S K D) (o : Of) (old : Devices S K D) (exit : Exit) (new : Devices S K D) : Type 0 where
  pub whole : exit ≡ Fine → GainsTable o (tell.disk_faults old.disk) (tell.disk_faults new.disk) tell.honest (tell.left old.source) (tell.written old.sink) (tell.written new.sink)
  pub cut_short : exit ≡ WriteFault → GainsTablePart o (tell.disk_faults old.disk) (tell.disk_faults new.disk) tell.honest (tell.left old.source) (tell.written old.sink) (tell.written new.sink)
  pub memory : exit ≡ Memory → (new.sink ≡ old.sink) ⊎ GainsTablePart o (tell.disk_faults old.disk) (tell.disk_faults new.disk) tell.honest (tell.left old.source) (tell.written old.sink) (tell.written new.sink)
  pub unwritten : (exit ≡ ReadFault) ⊎ ((exit ≡ LogFault) ⊎ IsBadScript exit) → new.sink ≡ old.sink
  pub answers : (exit ≡ Fine) ⊎ ((exit ≡ ReadFault) ⊎ ((exit ≡ LogFault) ⊎ ((exit ≡ WriteFault) ⊎ ((exit ≡ Memory) ⊎ IsBadScript exit))))
  pub read : exit ≡ Fine → ForSome (tell.left old.source) (λ b. tell.left new.source ≡ Some [])
  pub judged : IsBadScript exit → ForSome (tell.left old.source) (λ b. tell.left new.source ≡ Some (drop (SCRIPT_BYTES + 1) b))
  pub bad : (n : ℕ) (c : BadCause) → exit ≡ BadScript n c → ForSome (tell.left old.source) (λ b. IsRefused (most_keys o) o b n c)
  pub bad_refused : (n : ℕ) (c : BadCause) → ForSome (tell.left old.source) (λ b. IsRefused (most_keys o) o b n c → ComesUnlessUnread (BadScript n c) exit)
  pub logs : IsTrue tell.honest → exit ≢ LogFault → (new.disk ≡ old.disk) ⊎ AreOwnLogs (tell.image new.disk)
  pub given_up_whole : IsTrue tell.honest → exit ≡ Memory → MetNoFault tell.disk_faults old.disk new.disk → HasNoLogLineAfterPuts o (tell.left old.source) → (new.disk ≡ old.disk) ⊎ IsLog (tell.image new.disk)
  pub untouched : (exit ≡ ReadFault) ⊎ IsBadScript exit → new.disk ≡ old.disk
  pub faults : TellsFaults tell old exit new
  pub done : IsGoodInput o (tell.left old.source) → MetNoFaults tell old new → (exit ≡ Fine) ⊎ (exit ≡ Memory)
