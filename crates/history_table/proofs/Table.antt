-- What must stand before each entry of a transaction's history, whether it is promoted or not: the table of which entries come where. Of what crosses
-- between the two sides it says when something is sent; that what is got was sent is WireRun, and what a restart finds is Tied.
use Rattle.std.proofs.Common.{ℕ, ◌==◌, Bool, true, false, ◌&&◌, ◌||◌, List, [], ◌∷◌}
use Rattle.std.specs.Prelude.{not, if◌then◌else◌}
use Rattle.dtx_values.specs.declared.entry.Ask.TheVariants.{Prepare}
use Rattle.dtx_values.specs.declared.entry.Entry.{Entry}
use Rattle.dtx_values.specs.declared.entry.Entry.TheVariants.{Acked, Cloned, Completed, Enlisted, CommitAsked, RollbackAsked, TimedOut, Asked, Voted, PromoteReply, Requested, Sealed, Handed, OwnerAnswered, LocalYes, Decided, Told, Promoting, Promoted, PromotionFailed, Sent, Got, Lost, Logged, LogFull, Freed, Stopped, Restarted, Reenlisted, Scope, LogWord}
use Rattle.dtx_values.specs.declared.entry.Party.{Party}
use Rattle.dtx_values.specs.declared.entry.Party.TheVariants.{Client, Enl}
use Rattle.dtx_values.specs.declared.entry.Request.TheVariants.{Abort}
use Rattle.dtx_values.specs.declared.message.Conn.{Conn}
use Rattle.dtx_values.specs.declared.message.Conn.TheVariants.{Begin, Voter, Enl as OnEnl, Again}
use Rattle.dtx_values.specs.declared.message.Dir.{Dir}
use Rattle.dtx_values.specs.declared.message.Dir.TheVariants.{Up, Down}
use Rattle.dtx_values.specs.declared.message.Info.{Info}
use Rattle.dtx_values.specs.declared.message.Message.{Message}
use Rattle.dtx_values.specs.declared.message.Message.TheVariants.{BeginBegin, BeginCommit, BeginAbort, BeginCommitOne, BeginCommitted, BeginAborted, BeginInDoubt, VoterVoter, VoterYes, VoterNo, VoterRefused, VoterAsk, VoterCommit, VoterAbort, VoterInDoubt, EnlistEnlist, EnlistPrepared, EnlistNo, EnlistReadonly, EnlistAck, EnlistOneCommitted, EnlistOneAborted, EnlistOneInDoubt, EnlistRefused, EnlistPrepare, EnlistCommit, EnlistAbort, EnlistSingle, ReenlistReenlist, ReenlistAck, ReenlistCommitted, ReenlistAborted}
use Rattle.dtx_values.specs.declared.number.EnlNo.{EnlNo}
use Rattle.dtx_values.specs.declared.words.Class.{Class}
use Rattle.dtx_values.specs.declared.words.Outcome.{Outcome}
use Rattle.dtx_values.specs.declared.words.Outcome.TheVariants.{Committed, Aborted, InDoubt}
use Rattle.dtx_values.specs.declared.words.Vote.{Vote}
use Rattle.dtx_values.specs.declared.words.Vote.TheVariants.{Yes, No, Done}
use Rattle.dtx_values.specs.Class.{is_promotable, is_single_class, is_volatile}
use Rattle.dtx_values.specs.Ends.{same_connection}
use Rattle.dtx_values.specs.Lines.{has_line, is_opening}
use Rattle.dtx_model.specs.Words.{has, each, always, latest}
use Rattle.dtx_model.specs.Entries.{is_any_single_sent, is_asked, is_commit, is_commit_got, is_decision, is_good_vote, is_hand, is_any_hand, is_lost, is_owner, is_promoted, is_sealed, is_two_phase_got, is_vote, is_yes, is_yes_got, decision_of}
use Rattle.dtx_model.specs.Outcome.{can_own, doubt, durables, enlisted, evidence, hears_doubt, is_empty, is_first_veto, ready, single_doubt}
use Rattle.dtx_model.specs.Learned.{coordinator_aborted}
use Rattle.dtx_model.specs.Tied.{can_log, has_mark, is_logged}
use Rattle.dtx_model.specs.Wires.{is_ended, is_stopped, opens}
use Rattle.dtx_model.specs.Promotes.{ends_refused, ends_told, is_begun_got, is_created_got, is_enlisted_got, is_promoting, is_refusal, is_under_way}
use Rattle.dtx_model.specs.Caused.{is_begin_sent, same_vote}
use Rattle.dtx_model.specs.Coordinated.{coordinate, has_desk, is_sole}
use Rattle.dtx_model.specs.Observed.{is_request}
use Rattle.history_table.proofs.Crossed.{is_sent_on, is_severing}
use Rattle.history_table.proofs.EntryTests.{all_complete, has_promotable, is_answer, is_certain, is_cloned, is_decided, is_enlisted, is_only, is_volatile_of, zeros_cast}
use Rattle.history_table.proofs.Messages.{COMMIT, YES}

-- the coordinator got this enlistment's ENLIST
abbrev pub is_enlist_got : ℕ → Entry → Bool
is_enlist_got e (Got (OnEnl f) Up (EnlistEnlist i)) = e == f.value
is_enlist_got e _ = false

-- the coordinator got the message that opens the connection
abbrev pub is_opening_got : Conn → Entry → Bool
is_opening_got c (Got e Up m) = same_connection c e && is_opening e m
is_opening_got c _ = false

-- the voter's ASK was got
abbrev pub is_ask_got : Entry → Bool
is_ask_got (Got Voter Down VoterAsk) = true
is_ask_got _ = false

-- this enlistment's PREPARE was got
abbrev pub is_prepare_got : ℕ → Entry → Bool
is_prepare_got e (Got (OnEnl f) Down EnlistPrepare) = e == f.value
is_prepare_got e _ = false

-- this enlistment's SINGLE was got
abbrev pub is_single_got : ℕ → Entry → Bool
is_single_got e (Got (OnEnl f) Down EnlistSingle) = e == f.value
is_single_got e _ = false

-- the coordinator got COMMIT for a single phase
abbrev pub is_one_phase_got : Entry → Bool
is_one_phase_got (Got Begin Up BeginCommitOne) = true
is_one_phase_got _ = false

-- the coordinator got an answer to SINGLE: committed, aborted, or in doubt
abbrev pub is_one_committed : Entry → Bool
is_one_committed (Got (OnEnl e) Up EnlistOneCommitted) = true
is_one_committed _ = false

abbrev pub is_one_aborted : Entry → Bool
is_one_aborted (Got (OnEnl e) Up EnlistOneAborted) = true
is_one_aborted _ = false

abbrev pub is_one_in_doubt : Entry → Bool
is_one_in_doubt (Got (OnEnl e) Up EnlistOneInDoubt) = true
is_one_in_doubt _ = false

-- COMMIT was sent, of either name; ABORT was sent on b; the voter's YES was sent
abbrev pub is_commit_sent : Entry → Bool
is_commit_sent x = is_sent_on Begin Up COMMIT x

abbrev pub is_abort_sent : Entry → Bool
is_abort_sent (Sent Begin Up BeginAbort) = true
is_abort_sent _ = false

abbrev pub is_yes_sent : Entry → Bool
is_yes_sent x = is_sent_on Voter Up YES x

-- the newest entry passes
abbrev pub ends_with : (Entry → Bool) → List Entry → Bool
ends_with p [] = false
ends_with p (x ∷ past) = p x

-- each durable or promotable came to the coordinator
abbrev pub have_come : List Entry → Bool
have_come h = each (λ x. is_volatile x.1 || has (is_enlist_got x.0.value) h) (enlisted h)

-- each volatile voted yes or done
abbrev pub volatiles_well : List Entry → Bool
volatiles_well h = each (λ x. not (is_volatile x.1) || has (is_good_vote x.0.value) h) (enlisted h)

-- this enlistment, where it is promotable
abbrev pub is_promotable_of : ℕ → EnlNo × Class → Bool
is_promotable_of e x = (e == x.0.value) && is_promotable x.1

-- this enlistment stands and is volatile, or promotable
abbrev pub stands_volatile : ℕ → List Entry → Bool
stands_volatile e h = has (is_volatile_of e) (enlisted h)

abbrev pub stands_promotable : ℕ → List Entry → Bool
stands_promotable e h = has (is_promotable_of e) (enlisted h)

-- nothing of a promotion began, or it succeeded
abbrev pub is_settled_there : List Entry → Bool
is_settled_there h = has is_promoted h || not (has is_promoting h)

-- the information is of the enlistment of this connection
abbrev pub is_of_conn : Conn → Info → Bool
is_of_conn (OnEnl e) i = e.value == i.enl.value
is_of_conn (Again e) i = e.value == i.enl.value
is_of_conn c i = false

-- the enlistment of this connection stands and is volatile
abbrev pub is_volatile_conn : Conn → List Entry → Bool
is_volatile_conn (OnEnl e) h = stands_volatile e.value h
is_volatile_conn c h = false

-- the enlistment of this connection voted so
abbrev pub is_cast : Conn → Vote → Entry → Bool
is_cast (OnEnl e) v (Voted f w) = (e.value == f.value) && same_vote v w
is_cast c v x = false

-- an enlistment requests an abort
abbrev pub is_abort_request : Entry → Bool
is_abort_request (Requested e Abort) = true
is_abort_request _ = false

abbrev pub is_abort_decided : List Entry → Bool
is_abort_decided h = is_decided Aborted (latest decision_of h)

-- the durables and promotables are one durable that can own the commit: a promoted commit asks it for a single phase
abbrev pub is_lone_owner : List (EnlNo × Class) → Bool
is_lone_owner (x ∷ []) = is_single_class x.1
is_lone_owner _ = false

-- COMMIT is sent after the seal of what is promoted, where nothing is decided and ABORT wasn't sent. Where a promotable stands it was requested.
abbrev pub may_commit : List Entry → Bool
may_commit h = has is_sealed h && has is_promoted h && not (has is_decision h) && (not (has is_abort_sent h) && (not (has_promotable h) || has is_request h))

-- the coordinator aborted, and let nobody decide, or who was let decide said aborted: no commit stands, nor will
abbrev pub is_aborted_for_good : List Entry → Bool
is_aborted_for_good h = coordinator_aborted h && (not (has is_any_single_sent h) || has is_one_aborted h)

-- COMMIT for a single phase and YES were got, nothing came of them yet, and this is the one enlistment
abbrev pub may_let_decide : List Entry → Conn → Bool
may_let_decide h (OnEnl e) = has is_one_phase_got h && has is_yes_got h && not (coordinator_aborted h) && (is_sole (coordinate h).stage && has_desk (coordinate h) e.value)
may_let_decide h c = false

-- the enlistment of this connection has just answered so, as the owner
abbrev pub has_just_answered : Conn → Outcome → List Entry → Bool
has_just_answered (OnEnl e) o h = ends_with (is_owner e.value o) h
has_just_answered c o h = false

-- the enlistment of this connection got ENLISTED, wasn't handed the commit, and will not be: the local side saw the end of its own connection
abbrev pub is_left_alone : Conn → List Entry → Bool
is_left_alone (Again e) h = has (is_enlisted_got e.value) h && not (has (is_hand e.value) h) && is_ended (OnEnl e) Down h
is_left_alone c h = false

-- this enlistment acknowledged
abbrev pub is_acked_by : ℕ → Entry → Bool
is_acked_by e (Acked f) = e == f.value
is_acked_by e _ = false

-- the enlistment of this connection has just acknowledged, and its own connection was opened
abbrev pub has_just_acked : Conn → List Entry → Bool
has_just_acked (OnEnl e) h = ends_with (is_acked_by e.value) h && has (opens (OnEnl e)) h
has_just_acked (Again e) h = ends_with (is_acked_by e.value) h && has (opens (OnEnl e)) h
has_just_acked c h = true

-- what a message needs before it, on a connection that carries it. A message that opens b, v or an enlistment's connection is sent once, one that opens a
-- reenlistment's again only where a connection was cut or the coordinator stopped. A commit is sent where it was logged or the one that was let decide committed, over a reenlistment's connection
-- where there is a record; an abort or a refusal where the coordinator aborted and no commit stands. On b goes one COMMIT or ABORT, on v one YES or NO.
abbrev pub message_row : List Entry → Conn → Message → Bool
message_row h c BeginBegin = not (has (opens Begin) h)
message_row h c BeginCommit = may_commit h && not (is_lone_owner (durables h))
message_row h c BeginCommitOne = may_commit h && is_lone_owner (durables h)
message_row h c BeginAbort = (is_abort_decided h || ends_with is_abort_request h) && not (has is_commit_sent h)
message_row h c BeginCommitted = has is_logged h || has is_one_committed h
message_row h c BeginAborted = is_aborted_for_good h
message_row h c BeginInDoubt = single_doubt h || has is_one_in_doubt h
message_row h c (VoterVoter u) = has is_begun_got h && not (has (opens Voter) h)
message_row h c VoterYes = ends_with is_yes h
message_row h c VoterNo = is_abort_decided h && not (has is_yes_sent h)
message_row h c (VoterRefused cause) = is_aborted_for_good h
message_row h c VoterAsk = has is_commit_got h
message_row h c VoterCommit = has is_logged h || has is_one_committed h
message_row h c VoterAbort = is_aborted_for_good h
message_row h c VoterInDoubt = single_doubt h || has is_one_in_doubt h
message_row h c (EnlistEnlist i) = is_of_conn c i && has is_begun_got h && not (has (opens c) h) && not (is_volatile_conn c h)
message_row h c EnlistPrepared = has (is_cast c Yes) h
message_row h c EnlistNo = has (is_cast c No) h
message_row h c EnlistReadonly = has (is_cast c Done) h
message_row h c EnlistAck = has_just_acked c h
message_row h c EnlistOneCommitted = has_just_answered c Committed h
message_row h c EnlistOneAborted = has_just_answered c Aborted h
message_row h c EnlistOneInDoubt = has_just_answered c InDoubt h
message_row h c (EnlistRefused cause) = is_aborted_for_good h
message_row h c EnlistPrepare = has is_two_phase_got h
message_row h c EnlistCommit = has is_logged h
message_row h c EnlistAbort = is_aborted_for_good h
message_row h c EnlistSingle = may_let_decide h c
message_row h c (ReenlistReenlist i) = is_of_conn c i && (not (has (opens c) h) || has is_severing h) && is_left_alone c h
message_row h c ReenlistCommitted = has_mark h
message_row h c ReenlistAck = has_just_acked c h
message_row h c ReenlistAborted = coordinator_aborted h
message_row h c _ = true

-- the connection is there to send on: the message opens it, or it was opened before, and the coordinator got the message that opened it
abbrev pub is_there : List Entry → Conn → Dir → Message → Bool
is_there h c Up m = is_opening c m || has (opens c) h
is_there h c Down m = has (is_opening_got c) h

-- a message that tells this enlistment the outcome, on its own connection or on that of its reenlistment
abbrev pub brings_commit : ℕ → Entry → Bool
brings_commit e (Got (OnEnl f) Down EnlistCommit) = e == f.value
brings_commit e (Got (Again f) Down ReenlistCommitted) = e == f.value
brings_commit e _ = false

abbrev pub brings_abort : ℕ → Entry → Bool
brings_abort e (Got (OnEnl f) Down EnlistAbort) = e == f.value
brings_abort e (Got (Again f) Down ReenlistAborted) = e == f.value
brings_abort e _ = false

abbrev pub brings : ℕ → Outcome → Entry → Bool
brings e Committed x = brings_commit e x
brings e Aborted x = brings_abort e x
brings e InDoubt x = false

-- the history ends with a message that tells this party so
abbrev pub hears_here : List Entry → Party → Outcome → Bool
hears_here h Client o = false
hears_here h (Enl e) o = ends_with (brings e.value o) h

-- a message on the connection of this enlistment's reenlistment
abbrev pub is_again : ℕ → Entry → Bool
is_again e (Got (Again f) Down m) = e == f.value
is_again e _ = false

abbrev pub ends_again : List Entry → Party → Bool
ends_again h Client = false
ends_again h (Enl e) = ends_with (is_again e.value) h

-- it was decided so, this party may hear it, and the history doesn't end with a message on the connection of its reenlistment
abbrev pub hears_decision : List Entry → Party → Outcome → Bool
hears_decision h p o = is_decided o (latest decision_of h) && (is_certain o || hears_doubt h p) && not (ends_again h p)

-- the coordinator's commit, on b or on v
abbrev pub is_commit_come : Entry → Bool
is_commit_come (Got Begin Down BeginCommitted) = true
is_commit_come (Got Voter Down VoterCommit) = true
is_commit_come _ = false

-- an enlistment is lost that came to the coordinator
abbrev pub is_lost_there : List Entry → Entry → Bool
is_lost_there past (Lost e) = has (is_enlist_got e.value) past
is_lost_there past _ = false

-- the local side aborts after this entry: it is a veto without evidence, before the local yes or of one that is lost at the coordinator; a refusal or an abort
-- of the coordinator; or the telling of an enlistment's abort
abbrev pub calls_off : List Entry → Entry → Bool
calls_off past x = (is_first_veto past x && (not (has is_yes past) || is_lost_there past x)) || (is_refusal x || ends_told past x)

abbrev pub ends_called_off : List Entry → Bool
ends_called_off [] = false
ends_called_off (x ∷ past) = calls_off past x

-- the history without a promotion that failed right at its end
abbrev pub but_failed : List Entry → List Entry
but_failed (PromotionFailed ∷ past) = past
but_failed h = h

-- what a decision needs
abbrev pub decision_row : List Entry → Outcome → Bool
decision_row h Committed = ends_with is_commit_come h || (not (has is_promoted h) && evidence h)
decision_row h Aborted = ends_called_off (but_failed h)
decision_row h InDoubt = doubt h

-- a durable or promotable is enlisted that came to the coordinator, or where nothing is durable or promotable and no promotion began
abbrev pub class_row : List Entry → ℕ → Class → Bool
class_row h e c = is_volatile c || has (is_enlist_got e) h || (not (has is_promoting h) && can_own c && is_empty (durables h))

-- a volatile is asked while nothing is decided, a durable or promotable by its PREPARE
abbrev pub ask_row : List Entry → ℕ → Bool
ask_row h e = (stands_volatile e h && has is_commit h && not (has is_decision h)) || ends_with (is_prepare_got e) h

-- the commit is handed over: after its SINGLE, unless an abort is decided; where no promotion began, while nothing is decided
abbrev pub may_hand : List Entry → ℕ → Bool
may_hand h e = if has is_promoting h then ends_with (is_single_got e) h && not (is_abort_decided h) else not (has is_decision h)

-- an owner may answer: nothing is decided, or of a promotion that it is in doubt
abbrev pub may_answer : List Entry → Bool
may_answer h = not (has is_decision h) || (has is_promoted h && is_decided InDoubt (latest decision_of h))

-- the rule of each entry
abbrev pub rule : List Entry → Entry → Bool
rule h (Enlisted e c) =
    not (has is_decision h) && not (has is_sealed h) && not (has (is_enlisted e.value) h) && class_row h e.value c && not (is_volatile c && has (opens (OnEnl e)) h)
rule h (Cloned c k) = not (has is_decision h) && not (has is_commit h) && not (has (is_cloned c.value) h)
rule h (Completed c) = not (has is_decision h) && has (is_cloned c.value) h
rule h CommitAsked = not (has is_decision h) && not (has is_commit h)
rule h RollbackAsked = not (has is_decision h) && not (has is_sealed h)
rule h TimedOut = not (has is_decision h) && not (has is_yes h) && not (has is_any_hand h) && not (evidence h)
rule h (Asked e Prepare) = not (has (is_asked e.value) h) && ask_row h e.value
rule h (Voted e v) =
    has (is_enlisted e.value) h && has (is_asked e.value) h && not (has (is_vote e.value) h) && not (has (is_lost e.value) h) && not (stands_volatile e.value h && has is_decision h)
rule h (PromoteReply e ok) = not (has is_decision h) && is_under_way h && stands_promotable e.value h
rule h (Requested e r) = not (has is_decision h) && has is_promoted h && has is_sealed h && (stands_promotable e.value h && not (has is_request h))
rule h Sealed = not (has is_decision h) && has is_commit h && all_complete h && zeros_cast h && (not (has is_sealed h) && is_settled_there h)
rule h (Handed e) = may_hand h e.value && has is_sealed h && ready h && is_only e.value (durables h) && not (has is_any_hand h)
rule h (OwnerAnswered e o) = may_answer h && has (is_hand e.value) h && not (has is_answer h)
rule h LocalYes = not (has is_decision h) && has is_sealed h && has is_promoted h && volatiles_well h && (has is_ask_got h && not (has is_yes h))
rule h (Lost e) = has (is_enlisted e.value) h
rule h (Decided o) = not (has is_decision h) && decision_row h o
rule h (Told p o) = hears_here h p o || hears_decision h p o
rule h (Promoting c) = not (has is_decision h) && not (has is_sealed h) && not (has is_promoting h)
rule h (Promoted u c) = not (has is_decision h) && not (has is_sealed h) && is_under_way h && have_come h && (has is_begun_got h && has is_created_got h)
rule h PromotionFailed = is_under_way h && ends_refused h
rule h (Sent c d m) = has_line c d m && has is_promoting h && is_there h c d m && message_row h c m
rule h (Got (OnEnl e) Up (EnlistEnlist i)) = not (has is_commit_got h)
rule h Logged = can_log h
rule h LogFull = can_log h
rule h Freed = has_mark h
rule h Stopped = has is_begin_sent h && not (is_stopped h)
rule h (Restarted found) = is_stopped h
rule h (Reenlisted e) = has (is_enlisted_got e.value) h
rule h (Scope n) = false
rule h (LogWord n) = false
rule h _ = true

-- each entry keeps its rule
abbrev pub ruled : List Entry → Bool
ruled h = always rule h
