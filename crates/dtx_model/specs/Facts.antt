-- What the calls that the local side answers write.
use Rattle.std.specs.Prelude.{ℕ, ◌+◌, nat_le, Bool, true, false, ◌&&◌, ◌||◌, not, List, [], ◌∷◌, Option, Some, None, is_some, if◌then◌else◌, min, nat_lt}
use Rattle.dtx_values.specs.declared.call.Call.{Call}
use Rattle.dtx_values.specs.declared.call.Call.TheVariants.{Begin, Volatile, Durable, Promotable, Clone, Complete, Commit, Rollback, Marshal, Tick}
use Rattle.dtx_values.specs.declared.entry.Answer.{Answer}
use Rattle.dtx_values.specs.declared.entry.Answer.TheVariants.{Fine, True, Wait}
use Rattle.dtx_values.specs.declared.entry.Entry.{Entry}
use Rattle.dtx_values.specs.declared.entry.Entry.TheVariants.{Called, Began, Cloned, Completed, Enlisted, Init, CommitAsked, RollbackAsked, Clock, TimedOut, Late, Promoting, Sent}
use Rattle.dtx_values.specs.declared.message.Conn.TheVariants.{Begin as OnBegin}
use Rattle.dtx_values.specs.declared.message.Dir.TheVariants.{Up}
use Rattle.dtx_values.specs.declared.message.Message.TheVariants.{BeginBegin}
use Rattle.dtx_values.specs.declared.number.ActorNo.{ActorNo}
use Rattle.dtx_values.specs.declared.number.EnlNo.{EnlNo}
use Rattle.dtx_values.specs.declared.number.RmNo.{RmNo}
use Rattle.dtx_values.specs.declared.words.Cause.{Cause}
use Rattle.dtx_values.specs.declared.words.Cause.TheVariants.{Marshal as MarshalCause}
use Rattle.dtx_values.specs.declared.words.Class.TheVariants.{DurableSingle, Promotable as PromotableClass}
use Rattle.dtx_values.specs.Clones.{is_open_rollback}
use Rattle.dtx_values.specs.Owners.{cause_of, is_evident}
use Rattle.dtx_values.specs.Class.{is_promotable}
use Rattle.dtx_values.specs.Support.{is_single}
use Rattle.dtx_model.specs.Words.{has}
use Rattle.dtx_model.specs.Observed.{Observed}
use Rattle.dtx_model.specs.Half.{Half, sees, is_promoting, veto, veto_if, enlist_sent}
use Rattle.dtx_model.specs.Answers.{class_of, limit_of, local_answer}
use Rattle.dtx_values.specs.declared.words.Outcome.{Outcome}
use Rattle.dtx_values.specs.declared.words.Outcome.TheVariants.{Aborted, InDoubt}

-- the call was done, or waits: its facts follow
abbrev pub has_facts : Answer → Bool
has_facts Fine = true
has_facts True = true
has_facts Wait = true
has_facts _ = false

-- the call was done: its facts follow, and it doesn't wait
abbrev pub is_done : Answer → Bool
is_done Fine = true
is_done True = true
is_done _ = false

-- the call has to wait
abbrev pub is_waiting_answer : Answer → Bool
is_waiting_answer Wait = true
is_waiting_answer _ = false

-- how a lost enlistment ends the transaction: in doubt where it was handed the commit, else aborted
abbrev pub lost_outcome : Bool → Outcome
lost_outcome handed = if handed then InDoubt else Aborted

-- the timeout comes too late: it was decided, the local side said yes, the commit was handed over, or there is evidence
abbrev pub is_late : Observed → Bool
is_late o = o.yes || is_some o.decided || is_some o.handed || (not o.promoted && is_evident o.sealed o.table)

-- the clock after a tick: it stays at the last value of its u64
abbrev pub ticked : ℕ → ℕ → ℕ
ticked c n = min (c + n) 18446744073709551615

-- this tick is the first that reaches the timeout
abbrev pub reaches : Option ℕ → ℕ → ℕ → Bool
reaches (Some d) c n = nat_lt c d && nat_le d n
reaches None c n = false

abbrev pub time_up : Half → List Entry
time_up h = if is_late h.seen then Late ∷ [] else TimedOut ∷ veto h

-- the facts of a tick to this clock
abbrev pub tick_facts : Half → ℕ → List Entry
tick_facts h n = Clock n ∷ (if reaches h.seen.limit h.seen.clock n then time_up h else [])

-- a promotion begins: BEGIN is sent, unless a promotable has to promote first
abbrev pub begin_promotion : Half → Option Cause → List Entry
begin_promotion h (Some c) = Promoting c ∷ (if has (λ x. is_promotable x.class) h.seen.table then [] else Sent OnBegin Up BeginBegin ∷ [])
begin_promotion h None = []

-- a durable call that waits: its ENLIST is sent where the transaction is promoted; else a promotion begins where none is under way
abbrev pub durable_waits : ℕ → Half → EnlNo → RmNo → Bool → List Entry
durable_waits t h e r single =
    if h.seen.promoted then enlist_sent t e r else if is_promoting h.seen then [] else begin_promotion h (cause_of h.seen.table single)

abbrev pub durable_facts : ℕ → Half → EnlNo → RmNo → Bool → Answer → List Entry
durable_facts t h e r single Wait = durable_waits t h e r single
durable_facts t h e r single _ = Enlisted e DurableSingle ∷ []

-- the facts of a call that was answered so
abbrev pub local_facts : ℕ → Half → Call → Answer → List Entry
local_facts t h (Begin u d) a = Began (limit_of d) ∷ []
local_facts t h (Volatile u e x v) a = Enlisted e (class_of x) ∷ []
local_facts t h (Durable u e r s) a = durable_facts t h e r (is_single s) a
local_facts t h (Promotable u e r v x p) a = Enlisted e PromotableClass ∷ Init e ∷ []
local_facts t h (Clone u c k) a = Cloned c k ∷ []
local_facts t h (Complete c) a = Completed c ∷ []
local_facts t h (Commit u) a = CommitAsked ∷ veto_if (has is_open_rollback h.seen.clones) (sees h CommitAsked)
local_facts t h (Rollback u) a = RollbackAsked ∷ veto (sees h RollbackAsked)
local_facts t h (Marshal u) a = if is_promoting h.seen then [] else begin_promotion h (Some MarshalCause)
local_facts t h (Tick u n) a = tick_facts h (ticked h.seen.clock n)
local_facts t h _ a = []

abbrev pub facts_if : Bool → List Entry → List Entry
facts_if true es = es
facts_if false es = []

-- the block of a call that the local side answers: its entry, and its facts
abbrev pub call_entries : ℕ → Half → ℕ → ActorNo → Call → List Entry
call_entries t h n a c =
    Called n a (local_answer t h c 0) ∷ facts_if (has_facts (local_answer t h c 0)) (local_facts t h c (local_answer t h c 0))
