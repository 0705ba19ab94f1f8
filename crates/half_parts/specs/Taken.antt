-- Which entries the local side takes in: the tables take what each adds.
use Rattle.std.specs.Prelude.{ℕ, ◌+◌, ◌≡◌, ◌<◌, ◌≤◌, ◌==◌, ◌&&◌, ◌||◌, Bool, true, false, not, List, [], ◌∷◌, length, Option, Some, None, is_some, if◌then◌else◌}
use Rattle.dtx_values.specs.declared.limits.TheConstants.{DURABLES, ENLISTMENTS}
use Rattle.dtx_values.specs.declared.call.Call.{Call}
use Rattle.dtx_values.specs.declared.call.Call.TheVariants.{Durable, Marshal}
use Rattle.dtx_values.specs.declared.entry.Entry.{Entry}
use Rattle.dtx_values.specs.declared.entry.Entry.TheVariants.{Answered, Began, Cloned, Completed, Enlisted, Init, CommitAsked, RollbackAsked, Clock, TimedOut, Late, Asked, Voted, PromoteReply, Requested, Sealed, Handed, OwnerAnswered, LocalYes, Told, Sent, Lost, Reenlisted, Acked}
use Rattle.dtx_values.specs.declared.message.Conn.{Conn}
use Rattle.dtx_values.specs.declared.message.Conn.TheVariants.{Begin, Enl, Again}
use Rattle.dtx_values.specs.declared.message.Dir.TheVariants.{Up}
use Rattle.dtx_values.specs.declared.message.Message.{Message}
use Rattle.dtx_values.specs.declared.message.Message.TheVariants.{BeginBegin, EnlistEnlist, ReenlistReenlist}
use Rattle.dtx_values.specs.declared.number.EnlNo.{EnlNo}
use Rattle.dtx_values.specs.declared.words.Class.{Class}
use Rattle.dtx_values.specs.Class.{is_promotable, is_volatile}
use Rattle.dtx_values.specs.Owners.{cause_of}
use Rattle.dtx_values.specs.Support.{is_single}
use Rattle.dtx_values.specs.declared.words.Cause.{Cause}
use Rattle.dtx_values.specs.declared.words.Cause.TheVariants.{Marshal as MarshalCause}
use Rattle.dtx_values.specs.Outgoing.{Outgoing, sends_of}
use Rattle.dtx_values.specs.Row.{is_lasting}
use Rattle.dtx_values.specs.Table.{has_row, how_many, insert_by, was_asked}
use Rattle.dtx_model.specs.Words.{has}
use Rattle.dtx_model.specs.Observed.{Observed, is_branch}
use Rattle.dtx_model.specs.Waiting.{Waiter, is_place, managed_by, wanted_by, waiter_line}
use Rattle.dtx_model.specs.Half.{Half, enlist_sent}
use Rattle.dependent_clones.specs.Refusals.{clone_refusal}
use Rattle.half_parts.specs.Half.{Known, is_awaited}
use Rattle.half_parts.specs.Linked.{is_held}

-- there is a place for one more enlistment of this class, which is new; a durable or promotable one comes before a promotion, and alone
pub record HasPlace (h : Half) (e : EnlNo) (c : Class) : Type 0 where
  pub new : has_row e.value h.seen.table ≡ false
  pub unawaited : is_awaited h.waits e.value ≡ false
  pub few : length h.seen.table + how_many is_place h.waits < ENLISTMENTS
  pub few_last : is_volatile c ≡ false → how_many is_lasting h.seen.table + how_many is_place h.waits < DURABLES
  pub alone : (is_volatile c || not (has is_lasting h.seen.table)) ≡ true
  pub begun : is_some h.seen.limit ≡ true

-- ENLIST is sent while nothing is decided, for an enlistment that lasts or a place that a call waits for, and REENLIST for one that was at the coordinator before
abbrev pub MaySend : Half → Conn → Message → Type 0
MaySend h (Enl e) (EnlistEnlist i) = (is_some h.seen.decided ≡ false) × (is_held h.seen.table h.waits e.value ≡ true)
MaySend h (Again e) (ReenlistReenlist i) = has (is_branch e.value) h.seen.branches ≡ true
MaySend h c m = Unit {0}

-- the entry is one that the local side takes in alone
abbrev pub MayTakeIn : Half → Entry → Type 0
MayTakeIn h (Enlisted e c) = HasPlace h e c
MayTakeIn h (Cloned c k) = clone_refusal c h.seen.commit h.seen.clones ≡ None
MayTakeIn h (Voted e v) = was_asked e.value h.seen.table ≡ true
MayTakeIn h (Answered n x) = (is_some h.seen.decided || not (has (λ w. (n == w.0) && is_place w) h.waits)) ≡ true
MayTakeIn h (Sent c Up m) = MaySend h c m
MayTakeIn h (Began d) = Unit {0}
MayTakeIn h (Completed c) = Unit {0}
MayTakeIn h (Init e) = Unit {0}
MayTakeIn h CommitAsked = Unit {0}
MayTakeIn h RollbackAsked = Unit {0}
MayTakeIn h (Clock n) = Unit {0}
MayTakeIn h TimedOut = Unit {0}
MayTakeIn h Late = Unit {0}
MayTakeIn h (Asked e a) = Unit {0}
MayTakeIn h (PromoteReply e ok) = Unit {0}
MayTakeIn h (Requested e r) = Unit {0}
MayTakeIn h Sealed = Unit {0}
MayTakeIn h (Handed e) = Unit {0}
MayTakeIn h (OwnerAnswered e x) = Unit {0}
MayTakeIn h LocalYes = Unit {0}
MayTakeIn h (Told p x) = Unit {0}
MayTakeIn h (Lost e) = Unit {0}
MayTakeIn h (Reenlisted e) = Unit {0}
MayTakeIn h (Acked e) = Unit {0}
MayTakeIn h _ = ⊥

-- the outbox has room for the entry, and for the message that it sends
pub record IsFor (x : Entry) (o : Outgoing) : Type 0 where
  pub entry_fits : 0 < o.room
  pub message_fits : length (sends_of (x ∷ [])) ≤ o.send_room

-- the call waits for the place of the enlistment that it makes, if it makes one
abbrev pub is_place_awaited : List Waiter → Call → Bool
is_place_awaited ws (Durable t e r s) = is_awaited ws e.value
is_place_awaited ws _ = true

-- the ENLIST of a durable call that waits, where the transaction is promoted
abbrev pub place_sent : ℕ → Half → Call → List Entry
place_sent t h (Durable u e r s) = if h.seen.promoted then enlist_sent t e r else []
place_sent t h _ = []

-- why a call promotes
abbrev pub cause_for : Observed → Call → Option Cause
cause_for o (Durable t e r s) = cause_of o.table (is_single s)
cause_for o (Marshal t) = Some MarshalCause
cause_for o _ = None

-- BEGIN is sent, unless a promotable has to promote first
abbrev pub begin_sent : Observed → List Entry
begin_sent o = if has (λ x. is_promotable x.class) o.table then [] else Sent Begin Up BeginBegin ∷ []

-- what is known with the manager of the enlistment that the call makes at once
abbrev pub with_call : Call → Known → Known
with_call c k = record { transaction = k.transaction; half = record { seen = k.half.seen; waits = k.half.waits; managers = managed_by (Some c) k.half.managers } }

-- what is known with the call of line n, which waits
abbrev pub with_waiter : ℕ → Call → Known → Known
with_waiter n c k = record { transaction = k.transaction; half = record { seen = k.half.seen; waits = insert_by waiter_line (n, wanted_by c) k.half.waits; managers = k.half.managers } }
