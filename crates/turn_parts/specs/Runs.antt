-- What is said of a run of a script, a replay and one on threads alike: its transactions before their first call, its trace, its disk's faults, and the records of the log after it.
use Rattle.std.specs.Prelude.{ℕ, ◌-◌, ◌≡◌, ◌<◌, ◌≤◌, Bool, true, false, List, [], None, Ok, filter}
use Rattle.dtx_values.specs.declared.number.ActorNo.{ActorNo}
use Rattle.dtx_values.specs.declared.number.TxNo.{TxNo}
use Rattle.dtx_values.specs.declared.script.Line.{Line}
use Rattle.dtx_values.specs.declared.trace.Place.{Place}
use Rattle.dtx_values.specs.TxIds.{first_id}
use Rattle.dtx_values.specs.Table.{how_many}
use Rattle.dtx_model.specs.AtLog.{at_log, faults, follow_log}
use Rattle.dtx_model.specs.Caused.{CausedBy, Managers, Of, Settled, answers}
use Rattle.dtx_model.specs.Contexts.{context}
use Rattle.dtx_model.specs.History.{is_call_at}
use Rattle.dtx_model.specs.Log.{CommitRecord, is_record_of, log_has}
use Rattle.dtx_model.specs.Promotes.{identifier_of, promotes}
use Rattle.dtx_model.specs.Replay.{due_calls}
use Rattle.dtx_model.specs.Tied.{tied}
use Rattle.dtx_model.specs.Traces.{Placed, at_context, calls, history}
use Rattle.dtx_model.specs.Wires.{WireRun}
use Rattle.dtx_model.specs.Words.{has, past_of}
use Rattle.script_histories.specs.LogQuiet.{is_log_full}
use Rattle.tx_world.specs.State.{TxState}
use Rattle.turn_parts.specs.Counted.{LAST}
use Rattle.turn_parts.specs.LogEvents.{IsLogHistory}

-- a transaction to which nothing came yet
abbrev pub untouched : TxNo → TxState
untouched t = record { transaction = first_id t; world = record { calls = []; past = [] }; ours = None; unsure = false; life = 0 }

-- in each transaction each restart found what may be found: so it is where none came, and on an honest disk
abbrev pub AreTied : List Placed → Type 0
AreTied T = (t : TxNo) → tied (history t.value (past_of T)) ≡ true

-- in no transaction an append found the log full
abbrev pub IsNeverFull : List Placed → Type 0
IsNeverFull T = (t : TxNo) → has is_log_full (history t.value (past_of T)) ≡ false

-- a count of faults that was `from` rose by so many, unless it stands at its last value, where nobody knows by how many
abbrev pub IsRise : ℕ → ℕ → ℕ → Type 0
IsRise from to rise = to < LAST → rise ≡ to - from

-- T is a settled history of the script s in which those that `o` names have an object, over a disk whose count of faults rose by so many, whatever its restarts found: each transaction's history is one that the script's lines cause, runs over
-- its connections, and is settled; each context has the entries that its actor's lines make there; each line has its call at each of its places exactly once; what stands at the log came there in turn, the faults that it tells of rose the count,
-- and each stop and restart is followed. And where each restart found what may be found, each transaction is promoted in order.
pub record IsRunHistoryBy (s : List Line) (o : Of) (rise : ℕ) (T : List Placed) : Type 0 where
  pub caused : (t : TxNo) → CausedBy s (answers s o) t.value (history t.value (past_of T))
  pub wires : (t : TxNo) → WireRun (history t.value (past_of T))
  pub settled : (t : TxNo) → Settled s (history t.value (past_of T))
  pub contexts : (a : ActorNo) → at_context a.value (past_of T) ≡ context a.value (past_of s)
  pub called : (p : Place) (n a : ℕ) → how_many (is_call_at p n a) (calls (past_of T)) ≡ how_many (is_call_at p n a) (due_calls s (past_of s))
  pub faulted : faults (at_log (past_of T)) ≤ rise
  pub at_log : IsLogHistory s (at_log (past_of T))
  pub followed : follow_log (past_of T) ≡ true
  pub promotes : AreTied T → (t : TxNo) → promotes s t.value (history t.value (past_of T)) ≡ true

-- the same, where the first k managers have an object each
abbrev pub IsRunHistory : List Line → ℕ → ℕ → List Placed → Type 0
IsRunHistory s k rise T = IsRunHistoryBy s (Managers k) rise T

-- the records of a transaction of this number, of these
abbrev pub records_of : ℕ → List CommitRecord → List CommitRecord
records_of t rs = filter (is_record_of (identifier_of t)) rs

-- each image that a crash can leave is a log whose records are so
abbrev pub EachHolds : (List ℕ → Type 0) → (List CommitRecord → Type 0) → Type 0
EachHolds image P = (c : List ℕ) → image c → (rs : List CommitRecord) × (log_has c ≡ Ok rs) × P rs
