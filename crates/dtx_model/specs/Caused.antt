-- Which histories of a transaction a script causes: its blocks are those of steps that might come, and each reply that no object gives is the planned one.
use Rattle.std.specs.Prelude.{ℕ, zero, suc, ◌≡◌, ◌≤◌, ◌<◌, nat_le, Bool, true, false, ◌&&◌, ◌||◌, not, List, [], ◌∷◌, Option, Some, None, is_some}
use Rattle.dtx_values.specs.declared.call.Call.{Call}
use Rattle.dtx_values.specs.declared.call.Call.TheVariants.{Volatile, Durable, Promotable, Clone, Await, Do}
use Rattle.dtx_values.specs.declared.entry.Entry.{Entry}
use Rattle.dtx_values.specs.declared.entry.Entry.TheVariants.{Called, Voted, PromoteReply, OwnerAnswered, Requested, Sent}
use Rattle.dtx_values.specs.declared.entry.Request.{Request}
use Rattle.dtx_values.specs.declared.entry.Request.TheVariants.{Commit as RequestCommit, Abort as RequestAbort}
use Rattle.dtx_values.specs.declared.message.Conn.TheVariants.{Begin}
use Rattle.dtx_values.specs.declared.message.Dir.TheVariants.{Up}
use Rattle.dtx_values.specs.declared.message.Message.TheVariants.{BeginBegin}
use Rattle.dtx_values.specs.declared.note.Note.{Note}
use Rattle.dtx_values.specs.declared.note.Plan.{Plan}
use Rattle.dtx_values.specs.declared.note.Reply.{Reply}
use Rattle.dtx_values.specs.declared.number.ActorNo.{ActorNo}
use Rattle.dtx_values.specs.declared.number.RmNo.{RmNo}
use Rattle.dtx_values.specs.declared.number.TxNo.{TxNo}
use Rattle.dtx_values.specs.declared.script.Line.{Line}
use Rattle.dtx_values.specs.declared.words.Outcome.{Outcome}
use Rattle.dtx_values.specs.declared.words.Vote.{Vote}
use Rattle.dtx_values.specs.declared.words.Vote.TheVariants.{Yes, No, Done as DoneVote}
use Rattle.dtx_model.specs.Words.{has, kth, always, put, past_of, same}
use Rattle.dtx_model.specs.Entries.{is_call, same_outcome}
use Rattle.dtx_model.specs.Outcome.{is_empty}
use Rattle.dtx_model.specs.Coordinated.{Coordinated, may_free, may_log}
use Rattle.dtx_model.specs.Calls.{call_of}
use Rattle.dtx_model.specs.Grammar.{Name, OfEnlistment, OfClone}
use Rattle.dtx_model.specs.Waiting.{EnteredCall}
use Rattle.dtx_model.specs.Plans.{manager_of, plan_of}
use Rattle.dtx_model.specs.Acts.{act_entries}
use Rattle.dtx_model.specs.Replies.{due_of, fits}
use Rattle.dtx_model.specs.World.{World, half, core, has_left}
use Rattle.dtx_model.specs.Steps.{LogAnswer, Full, Step, Calls, Replies, Acts, Coordinates, Delivers, Stops, Restarts, StepName, ReplyOf, LocalAct, CoordinatorAct, Delivery, after, block_at, pending}
use Rattle.std.specs.Prelude.{ℕ, ◌==◌, ◌≡◌, ◌≤◌, Bool, true, false, ◌||◌, not, List, [], ◌∷◌, Some, is_some, slice_get}
use Rattle.dtx_values.specs.Row.{is_of}
use Rattle.dtx_values.specs.Clones.{is_clone}
use Rattle.dtx_model.specs.Observed.{Observed}
use Rattle.dtx_model.specs.Contexts.{calls_by, lines_before}
use Rattle.dtx_model.specs.Half.{is_aborted}
use Rattle.dtx_model.specs.Promotes.{is_promoting}

-- line n of the script, from 1, is by this actor, and gives transaction t this call, by its own words or as a scope line
pub record IsCallOf (s : List Line) (t n : ℕ) (actor : ActorNo) (call : Call) : Type 0 where
  pub line : Line
  pub stands : kth s n ≡ Some line
  pub by_actor : line.actor ≡ actor
  pub name : TxNo
  pub place : ℕ
  pub gives : slice_get (calls_by s (lines_before s n) line) place ≡ Some (name, call)
  pub at_t : name.value ≡ t

-- the enlistment or the clone that the call makes doesn't exist yet
abbrev pub is_new : Observed → Call → Bool
is_new o (Volatile t e x v) = not (has (is_of e.value) o.table)
is_new o (Durable t e r s) = not (has (is_of e.value) o.table)
is_new o (Promotable t e r v x p) = not (has (is_of e.value) o.table)
is_new o (Clone t c k) = not (has (is_clone c.value) o.clones)
is_new o _ = true

-- BEGIN was sent: the coordinator knows of the transaction, and a stop of the log hits it
abbrev pub is_begin_sent : Entry → Bool
is_begin_sent (Sent Begin Up BeginBegin) = true
is_begin_sent _ = false

abbrev pub is_full_answer : LogAnswer → Bool
is_full_answer Full = true
is_full_answer _ = false

-- the log may answer so: an append where it may be appended, a free where it may be freed; only an append finds no gate closed
abbrev pub may_coordinate : Coordinated → LogAnswer → Bool
may_coordinate k a = may_log k || (may_free k && not (is_full_answer a))

-- the step has this name: a reply that is due and fits, or what the log may answer to the coordinator's act, is free here
abbrev pub IsNamed : World → StepName → Step → Type 0
IsNamed w (ReplyOf e) m = (r : Reply) × (n : Note) × (due_of (half w).seen e.value ≡ Some n) × (fits r n ≡ true) × (m ≡ Replies e r)
IsNamed w LocalAct m = m ≡ Acts
IsNamed w CoordinatorAct m = (a : LogAnswer) × (may_coordinate (core w) a ≡ true) × (m ≡ Coordinates a)
IsNamed w (Delivery c d) m = m ≡ Delivers c d

-- the log may stop in the transaction right after a step that sent BEGIN: where it stands stopped, `stopped` follows that step at once
abbrev pub may_stop_after : Bool → List Entry → Bool
may_stop_after true block = has is_begin_sent block
may_stop_after false block = true

abbrev pub stopped_if : Bool → ℕ → World → World
stopped_if true t w = after t w Stops
stopped_if false t w = w

-- the world is what so many steps made of the one before, each the k-th that was pending
abbrev pub HasStepped : ℕ → ℕ → ℕ → World → World → Type 0
HasStepped t k zero before w = w ≡ before
HasStepped t k (suc m) before w =
    (v : World) × HasStepped t k m before v × (n : StepName) × (step : Step) × (kth (pending v) k ≡ Some n) × IsNamed v n step
    × (stops : Bool) × (may_stop_after stops (block_at t v step) ≡ true) × (w ≡ stopped_if stops t (after t v step))

-- so many steps were done right before, each the k-th that was pending: at most n, and fewer only where fewer than k are pending now
pub record HasDone (t : ℕ) (w : World) (k n m : ℕ) : Type 0 where
  pub before : World
  pub stepped : HasStepped t k m before w
  pub most : m ≤ n
  pub fewer : m < n → kth (pending w) k ≡ None

-- the call may answer here: `did` says how many steps were done for a `do`, and an `await` answers where the client was told or no step is pending
abbrev pub MayAnswer : ℕ → World → Call → ℕ → Type 0
MayAnswer t w (Do u k n) m = HasDone t w k n m
MayAnswer t w (Await u) m = (is_some (half w).seen.told_client || is_empty (pending w)) ≡ true
MayAnswer t w _ m = Unit {0}

-- the step may come: a call where it is one of those that may be entered and its line hasn't come yet, a reply where one is due and it fits, any other
-- where it is pending, and stops and restarts where the coordinator knows of the transaction. That a stop or a restart was the log's is said elsewhere.
abbrev pub MayCome : (ℕ → ActorNo → Call → Type 0) → ℕ → World → Step → Type 0
MayCome G t w (Calls n a c m) = G n a c × (has (is_call n) w.past ≡ false) × MayAnswer t w c m
MayCome G t w (Replies e r) = (n : Note) × (due_of (half w).seen e.value ≡ Some n) × (fits r n ≡ true)
MayCome G t w Acts = is_empty (act_entries (half w)) ≡ false
MayCome G t w (Coordinates a) = may_coordinate (core w) a ≡ true
MayCome G t w (Delivers c d) = has_left c d w.past ≡ true
MayCome G t w Stops = (has is_begin_sent w.past && not (core w).stopped) ≡ true
MayCome G t w (Restarts found) = has is_begin_sent w.past ≡ true

-- the world is what these steps made, the newest step first, each of which might come where it came
abbrev pub Ran : (ℕ → ActorNo → Call → Type 0) → ℕ → List Step → World → Type 0
Ran G t [] w = (w.calls ≡ []) × (w.past ≡ [])
Ran G t (m ∷ ms) w = (v : World) × Ran G t ms v × MayCome G t v m × (w ≡ after t v m)

-- the world of transaction t is what steps made, each reply of which need only fit its note
abbrev pub IsRun : (ℕ → ActorNo → Call → Type 0) → ℕ → World → Type 0
IsRun G t w = (steps : List Step) × Ran G t steps w

-- freely caused: the history is one of steps that may come, over the calls that may be entered; each reply need only fit its note
abbrev pub FreelyCaused : (ℕ → ActorNo → Call → Type 0) → ℕ → List Entry → Type 0
FreelyCaused G t h = (calls : List EnteredCall) × IsRun G t (record { calls = calls; past = h })

-- the call is one of these
pub record IsIn (ks : List EnteredCall) (n : ℕ) (actor : ActorNo) (call : Call) : Type 0 where
  pub place : ℕ
  pub stands : kth ks place ≡ Some (record { line = n; actor = actor; call = call })

-- the world is what the calls that were entered there, and the steps after them, made of a transaction
abbrev pub IsOwnRun : ℕ → World → Type 0
IsOwnRun t w = IsRun (IsIn w.calls) t w

-- the enlistment or the clone that a call makes
abbrev pub made_by : Call → Option Name
made_by (Volatile t e x v) = Some (OfEnlistment e.value)
made_by (Durable t e r s) = Some (OfEnlistment e.value)
made_by (Promotable t e r v x p) = Some (OfEnlistment e.value)
made_by (Clone t c k) = Some (OfClone c.value)
made_by _ = None

-- of the calls that may be entered, no two lines' make the same enlistment or the same clone
abbrev pub AreMadeOnce : (ℕ → ActorNo → Call → Type 0) → Type 0
AreMadeOnce G = (n m : ℕ) (a b : ActorNo) (c d : Call) (x : Name) → G n a c → G m b d → made_by c ≡ Some x → made_by d ≡ Some x → n ≡ m

-- the entry is a reply, and the plan has the same
abbrev pub same_vote : Vote → Vote → Bool
same_vote Yes Yes = true
same_vote No No = true
same_vote DoneVote DoneVote = true
same_vote _ _ = false

abbrev pub is_vote_planned : Option Vote → Vote → Bool
is_vote_planned (Some v) w = same_vote v w
is_vote_planned None w = false

abbrev pub is_outcome_planned : Option Outcome → Outcome → Bool
is_outcome_planned (Some x) y = same_outcome x y
is_outcome_planned None y = false

-- an owner that plans committed or in doubt requests a commit
abbrev pub is_request_planned : Option Outcome → Request → Bool
is_request_planned (Some x) RequestAbort = is_aborted x
is_request_planned (Some x) RequestCommit = not (is_aborted x)
is_request_planned None r = false

abbrev pub is_promotion_planned : Option Bool → Bool → Bool
is_promotion_planned (Some a) b = same a b
is_promotion_planned None b = false

-- the reply of an enlistment is one that its plan has, and where it doesn't answer freely it is that; an acknowledgement is always planned
abbrev pub is_as_planned : (ℕ → Plan) → (ℕ → Bool) → List Entry → Entry → Bool
is_as_planned p free past (Voted e v) = (free e.value && is_some (p e.value).vote) || is_vote_planned (p e.value).vote v
is_as_planned p free past (PromoteReply e ok) = (free e.value && is_some (p e.value).promote) || is_promotion_planned (p e.value).promote ok
is_as_planned p free past (OwnerAnswered e x) = (free e.value && is_some (p e.value).owner) || is_outcome_planned (p e.value).owner x
is_as_planned p free past (Requested e r) = (free e.value && is_some (p e.value).owner) || is_request_planned (p e.value).owner r
is_as_planned p free past _ = true

-- the call that line n, of those that a script's line gives by its own words, is in the world of its transaction
abbrev pub entered_by : ℕ → ActorNo → Option (TxNo × Call) → Option EnteredCall
entered_by n a (Some x) = Some (record { line = n; actor = a; call = x.1 })
entered_by n a None = None

abbrev pub called_at : List Line → ℕ → ActorNo → Option Line → Option EnteredCall
called_at s n a (Some l) = entered_by n a (call_of s l.body)
called_at s n a None = None

abbrev pub entered_at : List Line → Entry → Option EnteredCall
entered_at s (Called n a x) = called_at s n a (kth s n)
entered_at s _ = None

-- the calls of a history, by the script; those of scope lines, which neither wait nor enlist, are left out
abbrev pub entered_in : List Line → List Entry → List EnteredCall
entered_in s [] = []
entered_in s (x ∷ past) = put (entered_at s x) (entered_in s past)

-- the calls of all lines, as if they were entered
abbrev pub calls_in : List Line → List Line → List EnteredCall
calls_in s [] = []
calls_in s (l ∷ ls) = put (entered_by 0 l.actor (call_of s l.body)) (calls_in s ls)

-- Plan(S, E) and the manager of E, by the line that makes it
abbrev pub plans_of : List Line → ℕ → Plan
plans_of s e = plan_of (calls_in s (past_of s)) e

abbrev pub is_up_to : ℕ → Option RmNo → Bool
is_up_to k (Some r) = nat_le r.value k
is_up_to k None = false

-- the manager of the enlistment has an object: the first k have
abbrev pub has_object : List Line → ℕ → ℕ → Bool
has_object s k e = is_up_to k (manager_of (calls_in s (past_of s)) e)

-- whose enlistments have an object: those of the first managers, each with its own; those of one manager; or all volatiles
pub data Of : Type 0 where
  Managers : (count : ℕ) → Of
  Manager : (manager : RmNo) → Of
  Volatiles : Of

abbrev pub is_manager : RmNo → Option RmNo → Bool
is_manager r (Some q) = r.value == q.value
is_manager r None = false

-- the call makes this volatile
abbrev pub makes_volatile : ℕ → Call → Bool
makes_volatile e (Volatile t f x v) = e == f.value
makes_volatile e _ = false

-- the script makes the enlistment a volatile
abbrev pub is_volatile_in : List Line → ℕ → Bool
is_volatile_in s e = has (λ k. makes_volatile e k.call) (calls_in s (past_of s))

-- the enlistment has an object
abbrev pub answers : List Line → Of → ℕ → Bool
answers s (Managers k) e = has_object s k e
answers s (Manager r) e = is_manager r (manager_of (calls_in s (past_of s)) e)
answers s Volatiles e = is_volatile_in s e

-- Caused, where `free` says which enlistments have an object: the history is made of steps that may come over the calls that the script's lines give the
-- transaction, and each reply that no object gives is the planned one
pub record CausedBy (s : List Line) (free : ℕ → Bool) (t : ℕ) (h : List Entry) : Type 0 where
  pub freely : FreelyCaused (IsCallOf s t) t h
  pub planned : always (is_as_planned (plans_of s) free) h ≡ true

-- Caused, where the first k managers have an object each
abbrev pub Caused : List Line → ℕ → ℕ → List Entry → Type 0
Caused s k t h = CausedBy s (has_object s k) t h

-- the world of a history, by the script
abbrev pub world_of : List Line → List Entry → World
world_of s h = record { calls = entered_in s h; past = h }

-- Settled: no step is pending
abbrev pub Settled : List Line → List Entry → Type 0
Settled s h = pending (world_of s h) ≡ []

-- nothing is promoted in the history: no promotion begins
abbrev pub is_unpromoted : List Entry → Bool
is_unpromoted h = not (has is_promoting h)
