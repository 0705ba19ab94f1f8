-- A replay under way.
use Rattle.std.specs.Prelude.{ℕ, suc, ◌-◌, ◌<◌, ◌≤◌, ◌≡◌, ◌≢◌, nat_lt, Bool, true, false, ◌&&◌, not, List, [], length, Option, None, Some, is_some, IsTrue, slice_index_or, if◌then◌else◌}
use Rattle.dtx_values.specs.declared.entry.Entry.{Entry}
use Rattle.dtx_values.specs.TxIds.{first_id, number_of}
use Rattle.dtx_values.specs.declared.number.ActorNo.{ActorNo}
use Rattle.dtx_values.specs.declared.number.TxNo.{TxNo}
use Rattle.dtx_values.specs.declared.number.TheConstants.TxNo.{MAX}
use Rattle.dtx_values.specs.declared.call.Call.{Call}
use Rattle.dtx_values.specs.declared.script.Line.{Line}
use Rattle.dtx_model.specs.Words.{always, each, has, kth, past_of}
use Rattle.dtx_model.specs.AtLog.{at_log, is_called, is_log_up, open_right}
use Rattle.dtx_model.specs.Tied.{tied as is_tied_history}
use Rattle.dtx_model.specs.World.{World, core}
use Rattle.dtx_model.specs.Log.{CommitRecord, first_of}
use Rattle.dtx_model.specs.Promotes.{identifier_of}
use Rattle.dtx_model.specs.Steps.{Step, StepName, Stops, Restarts, after, pending}
use Rattle.dtx_model.specs.Caused.{AreMadeOnce, HasStepped, IsCallOf, IsIn, IsNamed, IsOwnRun, Of, Settled, answers, is_as_planned, is_begin_sent, plans_of}
use Rattle.dtx_model.specs.Traces.{Placed, history}
use Rattle.dtx_model.specs.Replay.{HasSettled, RoundsRan, StepsRan, after_turn, is_in_replay, is_passed, last_turn, world_at}
use Rattle.heard_notes.specs.Heard.{HeardNote, heard}
use Rattle.coordinator_log.specs.Slots.{open_records}
use Rattle.coordinator_log.specs.State.{LogState}
use Rattle.world_laws.specs.Left.{steps_left}
use Rattle.scope_context.specs.Standing.{Standing}
use Rattle.tx_world.specs.AtLog.{AreFit, Fits, IsHad, IsOurs, id_of}
use Rattle.tx_world.specs.Prepared.{NamesPrepared}
use Rattle.tx_world.specs.State.{TxState, is_hit_by, is_reached_by}
use Rattle.tx_world.specs.Tried.{IsTried}
use Rattle.script_histories.specs.LogQuiet.{is_found_full}
use Rattle.turn_parts.specs.Runs.{untouched}
use Rattle.turn_parts.specs.Reopening.{is_no_log_answer}
use Rattle.replay_runs.specs.Found.{Finds}
use Rattle.replay_runs.specs.LogRun.{IsCounted, IsForeignKept, LogGoes, LogStays}

-- its script, whose enlistments have an object, the transactions by number up to the last that was called, the contexts of its actors, and its trace
pub record RunState : Type 0 where
  pub script : List Line
  pub objects : Of
  pub worlds : List TxState
  pub contexts : List Standing
  pub trace : List Placed

-- the transaction of this number, of these
abbrev pub state_of : TxNo → List TxState → TxState
state_of t ws = slice_index_or ws (t.value - 1) (untouched t)

-- each has its own number, and there are no more than a script can name
pub record AreNumbered (ws : List TxState) : Type 0 where
  pub few : length ws ≤ MAX
  pub numbered : (t : TxNo) → (state_of t ws).transaction ≡ first_id t

-- each reply in the history is the planned one, or that of an enlistment that has an object
abbrev pub IsToPlan : List Line → Of → List Entry → Type 0
IsToPlan s o h = always (is_as_planned (plans_of s) (answers s o)) h ≡ true

-- A transaction is that of its history in the trace T, newest first: each call that was entered is one that the script gives it, and each reply that no object gave is the planned one.
pub record IsTied (s : List Line) (o : Of) (t : TxNo) (T : List Placed) (x : TxState) : Type 0 where
  pub past : x.world.past ≡ history t.value T
  pub given : (n : ℕ) (a : ActorNo) (c : Call) → IsIn x.world.calls n a c → IsCallOf s t.value n a c
  pub planned : IsToPlan s o x.world.past

-- A transaction is what its own calls made; what its coordinator keeps of the log is what it knows; and where each restart found what may be found, it is what its history says. No two of its calls make the same enlistment or the same clone.
pub record IsRecordKept (x : TxState) : Type 0 where
  pub own : IsOwnRun (number_of x.transaction) x.world
  pub once : AreMadeOnce (IsIn x.world.calls)
  pub ours : IsOurs (id_of x) (core x.world) (record { ours = x.ours; unsure = x.unsure; life = x.life })
  pub tried : is_tied_history x.world.past ≡ true → IsTried x.world.past (record { ours = x.ours; unsure = x.unsure; life = x.life })

-- The coordinator goes with the log: from BEGIN on it lives in the log's life, and it stands stopped exactly from then on, while the log isn't up.
pub record GoesWith {D : Type 0} (log : LogState D) (x : TxState) : Type 0 where
  pub life : has is_begin_sent x.world.past ≡ true → x.life ≡ log.life
  pub stopped : (core x.world).stopped ≡ (has is_begin_sent x.world.past && not log.is_up)

-- the log's records fit a transaction: those of a log that is up, and those of each image that a crash can leave
pub record FitsLog {D : Type 0} (image : D → List ℕ → Type 0) (log : LogState D) (x : TxState) : Type 0 where
  pub fits : IsTrue log.is_up → Fits x (open_records log.slots)
  pub imaged : AreFit (image log.disk) (Fits x)

-- What holds of a run over a log: each transaction is tied to its history in the trace, goes with the log, and has its record there; the log is up exactly where the trace says so, and then it isn't the call of a
-- restart that stands last at the log; and where the log is honest its records fit each transaction, each restart found what may be found, and the record that a transaction keeps names who said PREPARED.
pub record Holds {D : Type 0} (honest : Bool) (image : D → List ℕ → Type 0) (log : LogState D) (r : RunState) : Type 0 where
  pub tied : (t : TxNo) → IsTied r.script r.objects t (past_of r.trace) (state_of t r.worlds)
  pub kept : (t : TxNo) → IsRecordKept (state_of t r.worlds)
  pub goes : (t : TxNo) → GoesWith log (state_of t r.worlds)
  pub had : (t : TxNo) → IsHad (state_of t r.worlds) log
  pub up : log.is_up ≡ is_log_up (past_of r.trace)
  pub uncalled : IsTrue log.is_up → is_called (at_log (past_of r.trace)) ≡ false
  pub fits : IsTrue honest → (t : TxNo) → FitsLog image log (state_of t r.worlds)
  pub sound : IsTrue honest → (t : TxNo) → is_tied_history (state_of t r.worlds).world.past ≡ true
  pub named : IsTrue honest → (t : TxNo) → NamesPrepared (state_of t r.worlds)

-- What the trace T tells of the log, where `start` is the log before the first step: the faults and the armed stop; and where the log is honest the records that are no transaction's stay, if it had no record, each opening
-- found as many records as its step says, and no append found it full; and each restart found a log.
pub record Tells {D : Type 0} (faults : D → ℕ) (honest : Bool) (image : D → List ℕ → Type 0) (start log : LogState D) (T : List Placed) : Type 0 where
  pub counted : IsCounted (faults start.disk) (faults log.disk) log.armed T
  pub foreign : IsTrue honest → IsForeignKept image (open_records start.slots) log
  pub opens : IsTrue honest → open_records start.slots ≡ [] → open_right [] T ≡ true
  pub unlike : IsTrue honest → has is_no_log_answer (at_log T) ≡ false
  pub unfilled : IsTrue honest → open_records start.slots ≡ [] → has is_found_full T ≡ false

-- How a part of a run goes, over a log that was `from` before it and is `to` after it: the script and the objects stay, what holds of a run holds of it, what the trace told of the log it still tells, and over a disk that obeys what
-- restarts find is still right.
pub record RunsOn {D : Type 0} (faults : D → ℕ) (honest : Bool) (image : D → List ℕ → Type 0) (obeys : Bool) (seen : D → List ℕ) (from to : LogState D) (old new : RunState) : Type 0 where
  pub script : new.script ≡ old.script
  pub objects : new.objects ≡ old.objects
  pub holds : Holds honest image to new
  pub tells : (start : LogState D) → Tells faults honest image start from (past_of old.trace) → Tells faults honest image start to (past_of new.trace)
  pub finds : IsTrue obeys → (start : LogState D) → Finds faults seen start from (past_of old.trace) → Finds faults seen start to (past_of new.trace)

-- How objects come through a part of a run, which they were before it and are after it: they are still made for its script, and where what they heard by the trace before is what they were reached by, so it is by the trace after.
pub record HearsOn {O : Type 0} (is_for : List Line → Of → O → Type 0) (hears : List Line → O → List HeardNote → O → Type 0) (old new : RunState) (before after : O) : Type 0 where
  pub made : is_for new.script new.objects after
  pub reached : (from : O) → hears old.script from (heard old.script old.objects (past_of old.trace)) before → hears new.script from (heard new.script new.objects (past_of new.trace)) after

-- each call that was entered is one of a line before this one
abbrev pub IsBelow : ℕ → TxState → Type 0
IsBelow n x = each (λ k. nat_lt k.line n) x.world.calls ≡ true

abbrev pub AreBelow : ℕ → List TxState → Type 0
AreBelow n ws = (t : TxNo) → IsBelow n (state_of t ws)

-- no call was entered
abbrev pub HaveSameCalls : List TxState → List TxState → Type 0
HaveSameCalls old new = (t : TxNo) → (state_of t new).world.calls ≡ (state_of t old).world.calls

-- How steps of a run go, over a log that was `from` before them and is `to` now, whether memory ran out or not: they are no line's own, so the contexts stay and no call is entered; and the log goes on as where no line arms a stop or opens it again.
pub record StepsGo {D : Type 0} (faults : D → ℕ) (honest : Bool) (image : D → List ℕ → Type 0) (from to : LogState D) (old new : RunState) : Type 0 where
  pub contexts : new.contexts ≡ old.contexts
  pub calls : HaveSameCalls old.worlds new.worlds
  pub log : LogGoes faults honest image from to
  pub stays : LogStays faults from to

-- no k-th step of t is pending, neither by its world nor by the trace
pub record HasNoStep (t : TxNo) (k : ℕ) (r : RunState) : Type 0 where
  pub none : kth (pending (state_of t r.worlds).world) k ≡ None
  pub none_here : kth (pending (world_at r.script t (past_of r.trace))) k ≡ None

-- the k-th pending step of t was done
pub record Advances (s : List Line) (t : TxNo) (k : ℕ) (old new : List Placed) : Type 0 where
  pub name : StepName
  pub step : Step
  pub stands : kth (pending (world_at s t (past_of old))) k ≡ Some name
  pub named : IsNamed (world_at s t (past_of old)) name step
  pub in_replay : is_in_replay step ≡ true
  pub done : past_of new ≡ after_turn s t step (past_of old)

-- The k-th pending step of t was done, over a log that was up or not: it is one more of those that were done, and the trace has it; where the log is up as it was, no other transaction's history went on; and it leaves fewer steps.
pub record StepsOn (t : TxNo) (k : ℕ) (was_up is_up : Bool) (old new : RunState) : Type 0 where
  pub stepped : (m : ℕ) (start : World) → HasStepped t.value k m start (state_of t old.worlds).world → HasStepped t.value k (suc m) start (state_of t new.worlds).world
  pub some : Advances old.script t k old.trace new.trace
  pub apart : is_up ≡ was_up → (u : TxNo) → u ≢ t → history u.value (past_of new.trace) ≡ history u.value (past_of old.trace)
  pub nearer : steps_left (state_of t new.worlds).world < steps_left (state_of t old.worlds).world

-- so many steps of t were done, each the k-th that was pending; the traces are read newest first
abbrev pub StepsDone : List Line → TxNo → ℕ → ℕ → List Placed → List Placed → Type 0
StepsDone s t k m old new = StepsRan s t k m (past_of old) (past_of new)

-- the first pending step of t was done until none was left
pub record Settles (s : List Line) (t : TxNo) (old new : List Placed) : Type 0 where
  pub count : ℕ
  pub settled : HasSettled s t count (past_of old) (past_of new)

-- in rounds that began after these entries it is t's turn: going round from the last turn, those that come before t are settled; the trace is read newest first
pub record IsRoundAt (s : List Line) (start : List Placed) (t : ℕ) (T : List Placed) : Type 0 where
  pub turns : List (TxNo × Step)
  pub rounds : RoundsRan s start turns T
  pub passed : (v : TxNo) → is_passed (last_turn turns) t v.value ≡ true → Settled s (history v.value T)

-- the transactions below t are settled
abbrev pub AreSettledBelow : List Line → ℕ → List Placed → Type 0
AreSettledBelow s t T = (v : TxNo) → v.value < t → Settled s (history v.value T)

-- a transaction after a stop of this life of the log: where that hits it, its coordinator stops
abbrev pub halted : ℕ → TxState → TxState
halted life x = if is_hit_by life x then record { transaction = x.transaction; world = after (number_of x.transaction) x.world Stops; ours = x.ours; unsure = x.unsure; life = x.life } else x

-- the record of a transaction of this number, where these have one
abbrev pub record_in : List (Option CommitRecord) → ℕ → Option CommitRecord
record_in slots t = first_of (identifier_of t) (open_records slots)

-- a transaction after an opening of the log: where its coordinator lives in an earlier life, it is told whether its record was found, keeps what was found, and lives in the log's life
abbrev pub reopened : {D : Type 0} → LogState D → TxState → TxState
reopened log x =
    if is_reached_by log.life x
    then record { transaction = x.transaction; world = after (number_of x.transaction) x.world (Restarts (is_some (record_in log.slots (number_of x.transaction)))); ours = record_in log.slots (number_of x.transaction); unsure = false; life = log.life }
    else x
