-- In which order a transaction is promoted to the coordinator.
use Rattle.std.specs.Prelude.{ℕ, ◌+◌, ◌==◌, Bool, true, false, ◌&&◌, ◌||◌, not, List, [], ◌∷◌, Option, Some, None}
use Rattle.dtx_values.specs.declared.entry.Answer.TheVariants.{Wait}
use Rattle.dtx_values.specs.declared.entry.Entry.{Entry}
use Rattle.dtx_values.specs.declared.entry.Entry.TheVariants.{Called, Got, Promoting, Promoted, PromotionFailed, Told}
use Rattle.dtx_values.specs.declared.entry.Party.TheVariants.{Enl as Member}
use Rattle.dtx_values.specs.declared.message.Conn.TheVariants.{Begin, Voter, Enl}
use Rattle.dtx_values.specs.declared.message.Dir.TheVariants.{Down}
use Rattle.dtx_values.specs.declared.message.Message.TheVariants.{BeginBegun, BeginAborted, VoterCreated, VoterRefused, VoterAbort, EnlistEnlisted, EnlistRefused, EnlistAbort}
use Rattle.dtx_values.specs.declared.script.Body.{Body}
use Rattle.dtx_values.specs.declared.script.Body.TheVariants.{Durable, Marshal}
use Rattle.dtx_values.specs.declared.script.Line.{Line}
use Rattle.dtx_values.specs.declared.words.Cause.{Cause}
use Rattle.dtx_values.specs.declared.words.Cause.TheVariants.{Two, Second, Beside, Marshal as MarshalCause}
use Rattle.dtx_values.specs.declared.words.Outcome.TheVariants.{Aborted}
use Rattle.dtx_values.specs.declared.row.Row.{Row}
use Rattle.dtx_model.specs.Words.{has, each, always, kth}
use Rattle.dtx_model.specs.Entries.{is_promoted}
use Rattle.dtx_model.specs.Outcome.{durables, is_veto}
use Rattle.dtx_model.specs.Observed.{is_promotion_failed, rows}
use Rattle.dtx_values.specs.Support.{is_single}
use Rattle.dtx_values.specs.Owners.{cause_of}

abbrev pub same_cause : Cause → Cause → Bool
same_cause Two Two = true
same_cause Second Second = true
same_cause Beside Beside = true
same_cause MarshalCause MarshalCause = true
same_cause _ _ = false

-- a call answered wait
abbrev pub is_wait : Entry → Bool
is_wait (Called n a Wait) = true
is_wait _ = false

-- a promotion began
abbrev pub is_promoting : Entry → Bool
is_promoting (Promoting c) = true
is_promoting _ = false

-- a promotion began for this cause
abbrev pub is_promoting_for : Cause → Entry → Bool
is_promoting_for c (Promoting d) = same_cause c d
is_promoting_for c _ = false

-- promoting: a promotion began, and neither succeeded nor failed
abbrev pub is_under_way : List Entry → Bool
is_under_way h = has is_promoting h && not (has is_promoted h) && not (has is_promotion_failed h)

-- why the call of this command promotes: a marshal call because it is one, a durable call for the cause that the rows give
abbrev pub cause_by : List Row → Option Body → Option Cause
cause_by xs (Some (Marshal t)) = Some MarshalCause
cause_by xs (Some (Durable t e r s)) = cause_of xs (is_single s)
cause_by xs _ = None

abbrev pub body_of : Option Line → Option Body
body_of (Some l) = Some l.body
body_of None = None

abbrev pub is_cause : Cause → Option Cause → Bool
is_cause c (Some d) = same_cause c d
is_cause c None = false

-- the history ends with a call that answered wait, before which none did, and whose command promotes for this cause
abbrev pub is_first_wait : List Line → Cause → List Entry → Bool
is_first_wait s c (Called n a Wait ∷ past) = not (has is_wait past) && is_cause c (cause_by (rows past) (body_of (kth s n)))
is_first_wait s c _ = false

abbrev pub is_begun_got : Entry → Bool
is_begun_got (Got Begin Down (BeginBegun u)) = true
is_begun_got _ = false

abbrev pub is_created_got : Entry → Bool
is_created_got (Got Voter Down VoterCreated) = true
is_created_got _ = false

abbrev pub is_enlisted_got : ℕ → Entry → Bool
is_enlisted_got e (Got (Enl f) Down EnlistEnlisted) = e == f.value
is_enlisted_got e _ = false

-- the history before the promotion began
abbrev pub before_promotion : List Entry → List Entry
before_promotion [] = []
before_promotion (Promoting c ∷ past) = past
before_promotion (x ∷ past) = before_promotion past

-- a durable or promotable that stood at the start was enlisted at the coordinator
abbrev pub is_handed_over : List Entry → Bool
is_handed_over h = each (λ x. has (is_enlisted_got x.0.value) h) (durables (before_promotion h))

-- the coordinator refused, or aborted
abbrev pub is_refusal : Entry → Bool
is_refusal (Got Begin Down BeginAborted) = true
is_refusal (Got Voter Down (VoterRefused cause)) = true
is_refusal (Got Voter Down VoterAbort) = true
is_refusal (Got (Enl e) Down (EnlistRefused cause)) = true
is_refusal (Got (Enl e) Down EnlistAbort) = true
is_refusal _ = false

-- the entry tells an enlistment that the outcome is aborted
abbrev pub is_told_abort : ℕ → Entry → Bool
is_told_abort e (Told (Member f) Aborted) = e == f.value
is_told_abort e _ = false

-- the history ends with an abort of an enlistment, which is told it directly after
abbrev pub ends_told : List Entry → Entry → Bool
ends_told (Got (Enl e) Down EnlistAbort ∷ past) x = is_told_abort e.value x
ends_told _ x = false

-- the history ends with a veto, a refusal or an abort; after the abort of an enlistment it may have been told
abbrev pub ends_refused : List Entry → Bool
ends_refused [] = false
ends_refused (x ∷ past) = is_veto past x || is_refusal x || ends_told past x

-- the identifier of transaction t: the node 1 in the upper 64 bits, and t in the lower
abbrev pub identifier_of : ℕ → ℕ
identifier_of t = 18446744073709551616 + t

-- A promotion begins once, directly after the first call that waits, and for that call's cause. It succeeds after BEGUN and CREATED, and where a
-- durable or promotable stood at the start after its ENLISTED. It fails directly after a veto, a refusal or an abort. It does one of both at most.
abbrev pub keeps_order : List Line → ℕ → List Entry → Entry → Bool
keeps_order s t past (Promoting c) = not (has is_promoting past) && is_first_wait s c past
keeps_order s t past (Promoted u c) =
    is_under_way past && has (is_promoting_for c) past && (u == identifier_of t) && has is_begun_got past && has is_created_got past && is_handed_over past
keeps_order s t past PromotionFailed = is_under_way past && ends_refused past
keeps_order s t past _ = true

-- Promotes
unfoldable pub promotes : List Line → ℕ → List Entry → Bool
promotes s t h = always (keeps_order s t) h
