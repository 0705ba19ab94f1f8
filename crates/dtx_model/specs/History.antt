-- The traces of a script, in whatever order its actors go on, and those of a replay. A trace stands oldest first here, as it is printed.
use Rattle.std.specs.Prelude.{ℕ, ◌≡◌, ◌≤◌, ◌==◌, Bool, true, false, ◌&&◌, ◌||◌, not, List, [], Option, Some, None, is_none, is_some, if◌then◌else◌}
use Rattle.dtx_values.specs.declared.entry.Entry.{Entry}
use Rattle.dtx_values.specs.declared.entry.Entry.TheVariants.{CommitAsked, Cut, LogFull, Lost, Reenlisted, RollbackAsked, Stopped, TimedOut}
use Rattle.dtx_values.specs.declared.note.Plan.{Plan}
use Rattle.dtx_values.specs.declared.number.ActorNo.{ActorNo}
use Rattle.dtx_values.specs.declared.number.TxNo.{TxNo}
use Rattle.dtx_values.specs.declared.script.Line.{Line}
use Rattle.dtx_values.specs.declared.trace.Place.{Place}
use Rattle.dtx_values.specs.declared.trace.Place.TheVariants.{Context, Transaction, Log}
use Rattle.dtx_values.specs.declared.words.Class.{Class}
use Rattle.dtx_values.specs.declared.words.Outcome.{Outcome}
use Rattle.dtx_values.specs.declared.words.Outcome.TheVariants.{Committed}
use Rattle.dtx_values.specs.Class.{is_promotable}
use Rattle.dtx_values.specs.Clones.{blocks}
use Rattle.dtx_values.specs.Table.{how_many}
use Rattle.dtx_values.specs.Vote.{voted_well}
use Rattle.dtx_model.specs.Words.{has, each, always, all_of, latest, past_of, holds}
use Rattle.dtx_model.specs.Entries.{client_told_of, clone_of, is_any_owner, is_asked, is_asked_alone, is_asked_to_promote, is_client_told, is_commit, is_hand, is_promote_reply_of, is_request_of, is_vote}
use Rattle.dtx_model.specs.Outcome.{agree, can_own, enlisted, is_complete, is_rollback, justified}
use Rattle.dtx_model.specs.Contexts.{context}
use Rattle.dtx_model.specs.Promotes.{promotes}
use Rattle.dtx_model.specs.Wires.{WireRun}
use Rattle.dtx_model.specs.Learned.{Learned, are_answered, is_decided_there}
use Rattle.dtx_model.specs.Traces.{Placed, at_context, calls, history}
use Rattle.dtx_model.specs.Caused.{CausedBy, Of, Managers, Settled, answers, is_as_planned, plans_of}
use Rattle.dtx_model.specs.AtLog.{at_log, faults, follow_log, open_right, stop_right}
use Rattle.dtx_model.specs.Replay.{IsReplayed, due_calls}

abbrev pub same_place : Place → Place → Bool
same_place (Context a) (Context b) = a.value == b.value
same_place (Transaction t) (Transaction u) = t.value == u.value
same_place Log Log = true
same_place _ _ = false

-- the call of this line by this actor at this place
abbrev pub is_call_at : Place → ℕ → ℕ → Place × ℕ × ActorNo → Bool
is_call_at p n a c = same_place p c.0 && (n == c.1) && (a == c.2.value)

-- HistoryBy, over a disk whose count of faults rose by so many: each transaction's history is caused by the script, where those that `o` names have an object; it is promoted in order, runs over its
-- connections and is settled; each context has the entries that its actor's lines make there; each line has its call at each of its places exactly
-- once; and stops and restarts come from the log, and are followed.
pub record HistoryBy (s : List Line) (o : Of) (rise : ℕ) (T : List Placed) : Type 0 where
  pub caused : (t : TxNo) → CausedBy s (answers s o) t.value (history t.value (past_of T))
  pub promotes : (t : TxNo) → promotes s t.value (history t.value (past_of T)) ≡ true
  pub wires : (t : TxNo) → WireRun (history t.value (past_of T))
  pub settled : (t : TxNo) → Settled s (history t.value (past_of T))
  pub contexts : (a : ActorNo) → at_context a.value (past_of T) ≡ context a.value (past_of s)
  pub called : (p : Place) (n a : ℕ) → how_many (is_call_at p n a) (calls (past_of T)) ≡ how_many (is_call_at p n a) (due_calls s (past_of s))
  pub faulted : faults (at_log (past_of T)) ≤ rise
  pub followed : follow_log (past_of T) ≡ true

-- IsHistory: the first k managers have an object each
abbrev pub IsHistory : List Line → ℕ → ℕ → List Placed → Type 0
IsHistory s k rise T = HistoryBy s (Managers k) rise T

-- the order of a replay: the calls in order of lines, the steps as the lines and the rounds give them; where no fault came, each stop exactly where its device
-- call is reached; and over an honest disk, and a log that was empty at the start, each opening finds as many records as its step says
pub record IsReplay (s : List Line) (rise : ℕ) (is_honest : Bool) (T : List Placed) : Type 0 where
  pub called : calls (past_of T) ≡ due_calls s (past_of s)
  pub replayed : IsReplayed s (past_of T)
  pub stops : rise ≡ 0 → stop_right [] (past_of T) ≡ true
  pub opens : is_honest ≡ true → open_right [] (past_of T) ≡ true

abbrev pub is_committed : Option Outcome → Bool
is_committed (Some Committed) = true
is_committed _ = false

-- an enlistment is willing where it plans to vote yes or done, one that can own the commit also to answer committed as the owner, and a
-- promotable also that it can be promoted
abbrev pub is_willing : Plan → Class → Bool
is_willing p c = voted_well p.vote && (not (can_own c) || is_committed p.owner) && (not (is_promotable c) || holds p.promote)

-- something was lost: an enlistment, a connection, or the coordinator
abbrev pub is_loss : Entry → Bool
is_loss (Lost e) = true
is_loss (Cut c u w) = true
is_loss Stopped = true
is_loss _ = false

-- a rollback was asked for, the time was up, or the log was full
abbrev pub is_ending : Entry → Bool
is_ending RollbackAsked = true
is_ending TimedOut = true
is_ending LogFull = true
is_ending _ = false

-- where the entry asks for the commit, each rollback clone is complete
abbrev pub is_asked_in_time : List Entry → Entry → Bool
is_asked_in_time past CommitAsked = each (λ c. not (is_rollback c.1) || is_complete past c) (all_of clone_of past)
is_asked_in_time past _ = true

-- no object answers otherwise than planned
abbrev pub nobody : ℕ → Bool
nobody e = false

-- what is needed of a transaction for it to be committed: commit was asked, each rollback clone was complete by then and each other clone is at some time,
-- each enlistment is willing and answers as planned, no rollback, timeout or full log ended it, and nothing was lost. So a veto that nobody gave is no excuse.
pub record CanCommit (s : List Line) (h : List Entry) : Type 0 where
  pub asked : has is_commit h ≡ true
  pub in_time : always is_asked_in_time h ≡ true
  pub completed : each (λ c. is_complete h c) (all_of clone_of h) ≡ true
  pub willing : each (λ x. is_willing (plans_of s x.0.value) x.1) (enlisted h) ≡ true
  pub planned : always (is_as_planned (plans_of s) nobody) h ≡ true
  pub ended_by_none : has is_ending h ≡ false
  pub unlost : has is_loss h ≡ false

-- the entry says that this enlistment is lost, or that it came back
abbrev pub loss_of : ℕ → Entry → Option Bool
loss_of e (Lost f) = if e == f.value then Some true else None
loss_of e (Reenlisted f) = if e == f.value then Some false else None
loss_of e _ = None

-- this enlistment was lost, and didn't come back since
abbrev pub is_still_lost : ℕ → List Entry → Bool
is_still_lost e h = holds (latest (loss_of e) h)

-- this enlistment stays silent where it was asked to promote: its line plans no reply to that, and it gave none
abbrev pub is_silent_to_promote : Plan → List Entry → ℕ → Bool
is_silent_to_promote p h e = has (is_asked_to_promote e) h && is_none p.promote && not (has (is_promote_reply_of e) h)

-- this enlistment, which isn't lost, stays silent to a note that it was given: to prepare, to be the owner of the commit, to promote, or to commit in a single phase.
-- Its line plans no reply to that note, and it gave none.
abbrev pub is_silent : Plan → List Entry → ℕ → Bool
is_silent p h e =
    not (is_still_lost e h) && ((has (is_asked e) h && is_none p.vote && not (has (is_vote e) h)) || (has (is_hand e) h && is_none p.owner && not (has (is_any_owner e) h))
    || is_silent_to_promote p h e || (has (is_asked_alone e) h && is_none p.owner && not (has (is_request_of e) h)))

-- there is something that it waits for: a clone that blocks and isn't complete, or an enlistment that stays silent
abbrev pub is_waiting : List Line → List Entry → Bool
is_waiting s h = has (λ c. blocks c.1 && not (is_complete h c)) (all_of clone_of h) || has (λ x. is_silent (plans_of s x.0.value) h x.0.value) (enlisted h)

-- where the history is settled and commit was asked, the client was told, or there is something that it waits for
abbrev pub IsToldOrWaits : List Line → List Entry → Type 0
IsToldOrWaits s h = Settled s h → has is_commit h ≡ true → (is_some (latest client_told_of h) || is_waiting s h) ≡ true

-- where the history is settled, each that came back was told
abbrev pub AreAnswered : List Line → List Entry → Type 0
AreAnswered s h = Settled s h → are_answered (is_decided_there h) [] h ≡ true

-- each transaction that can commit is committed, its client was told so; where commit was asked, the client was told some outcome, or the transaction waits for
-- something; and each enlistment that came back was told
pub record IsComplete (s : List Line) (T : List Placed) : Type 0 where
  pub told : (t : TxNo) → IsToldOrWaits s (history t.value (past_of T))
  pub committed : (t : TxNo) → CanCommit s (history t.value (past_of T)) → has (is_client_told Committed) (history t.value (past_of T)) ≡ true
  pub answered : (t : TxNo) → AreAnswered s (history t.value (past_of T))

-- what is told in each transaction is just, nobody is told the opposite of what another is told, and who comes back learns the outcome
pub record HasOneOutcome (T : List Placed) : Type 0 where
  pub just : (t : TxNo) → justified (history t.value (past_of T)) ≡ true
  pub agrees : (t : TxNo) → agree (history t.value (past_of T)) ≡ true
  pub learned : (t : TxNo) → Learned (history t.value (past_of T))
