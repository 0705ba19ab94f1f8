-- What never comes where no end is a veto and all are willing, the rows of the table of rules that say so, and a history that is fine so far.
use Rattle.std.proofs.Common.{◌≡◌, ℕ, ◌==◌, Bool, true, false, ◌&&◌, ◌||◌, List, ◌∷◌}
use Rattle.std.specs.Prelude.{not}
use Rattle.dtx_values.specs.declared.entry.Entry.{Entry}
use Rattle.dtx_values.specs.declared.entry.Entry.TheVariants.{Enlisted, RollbackAsked, TimedOut, Voted, PromoteReply, Requested, OwnerAnswered, Decided, Told, PromotionFailed, Sent, Got, Down as End, LogFull, Restarted}
use Rattle.dtx_values.specs.declared.entry.Request.TheVariants.{Abort}
use Rattle.dtx_values.specs.declared.message.Conn.{Conn}
use Rattle.dtx_values.specs.declared.message.Conn.TheVariants.{Begin, Voter, Enl, Again}
use Rattle.dtx_values.specs.declared.message.Dir.TheVariants.{Down, Up}
use Rattle.dtx_values.specs.declared.message.Message.{Message}
use Rattle.dtx_values.specs.declared.message.Message.TheVariants.{BeginAbort, BeginAborted, BeginCommitOne, BeginInDoubt, VoterNo, VoterRefused, VoterAbort, VoterInDoubt, EnlistNo, EnlistRefused, EnlistAbort, EnlistOneAborted, EnlistOneInDoubt, ReenlistAborted}
use Rattle.dtx_values.specs.declared.words.Class.{Class}
use Rattle.dtx_values.specs.declared.words.Outcome.{Outcome}
use Rattle.dtx_values.specs.declared.words.Outcome.TheVariants.{Committed, Aborted, InDoubt}
use Rattle.dtx_values.specs.Class.{is_promotable}
use Rattle.dtx_values.specs.Vote.{is_no}
use Rattle.dtx_model.specs.Words.{has, always, latest}
use Rattle.dtx_model.specs.Entries.{decision_of, same_outcome}
use Rattle.dtx_model.specs.History.{is_asked_in_time}
use Rattle.dtx_model.specs.Learned.{coordinator_aborted}
use Rattle.dtx_model.specs.Outcome.{can_own, doubt, is_lone, is_veto_end, single_doubt}
use Rattle.dtx_model.specs.Promotes.{ends_refused}
use Rattle.dtx_model.specs.Wires.{is_stopped}
use Rattle.history_table.proofs.EntryTests.{is_decided, is_no_vote}
use Rattle.history_table.proofs.Handed.{is_answered}
use Rattle.history_table.proofs.Table.{is_one_in_doubt}
use Rattle.settled_histories.proofs.Wired.{IsWired}
use Rattle.dtx_model.specs.AtLog.{is_restart}

abbrev pub is_bad_message : Message → Bool
is_bad_message BeginAbort = true
is_bad_message BeginAborted = true
is_bad_message BeginInDoubt = true
is_bad_message VoterNo = true
is_bad_message (VoterRefused c) = true
is_bad_message VoterAbort = true
is_bad_message VoterInDoubt = true
is_bad_message EnlistNo = true
is_bad_message (EnlistRefused c) = true
is_bad_message EnlistAbort = true
is_bad_message EnlistOneAborted = true
is_bad_message EnlistOneInDoubt = true
is_bad_message ReenlistAborted = true
is_bad_message _ = false

abbrev pub is_bad_outcome : Outcome → Bool
is_bad_outcome Committed = false
is_bad_outcome _ = true

-- what never comes in a history that can commit
abbrev pub is_bad : Entry → Bool
is_bad RollbackAsked = true
is_bad TimedOut = true
is_bad (Voted e v) = is_no v
is_bad (PromoteReply e ok) = not ok
is_bad (Requested e Abort) = true
is_bad (OwnerAnswered e x) = is_bad_outcome x
is_bad (Decided x) = is_bad_outcome x
is_bad (Told p x) = is_bad_outcome x
is_bad PromotionFailed = true
is_bad (Sent c d m) = is_bad_message m
is_bad (Got c d m) = is_bad_message m
is_bad LogFull = true
is_bad (Restarted found) = true
is_bad _ = false

-- what ends a transaction of itself: nothing else that is bad is to blame for it
abbrev pub is_origin : Entry → Bool
is_origin RollbackAsked = true
is_origin TimedOut = true
is_origin (Voted e v) = is_no v
is_origin (PromoteReply e ok) = not ok
is_origin (Requested e Abort) = true
is_origin (OwnerAnswered e x) = is_bad_outcome x
is_origin LogFull = true
is_origin _ = false

-- b or v, over which the local side and the coordinator agree on the outcome
abbrev pub is_pair : Conn → Bool
is_pair Begin = true
is_pair Voter = true
is_pair _ = false

-- the entry is no end that is a veto, seen on either side, and seen on the local side
abbrev pub is_spared : List Entry → Entry → Bool
is_spared past (End c d) = not (is_veto_end past c d)
is_spared past _ = true

abbrev pub is_spared_down : List Entry → Entry → Bool
is_spared_down past (End c Down) = not (is_veto_end past c Down)
is_spared_down past _ = true

-- where COMMIT for a single phase is got, exactly one enlistment came
abbrev pub is_lone_asked : List Entry → Entry → Bool
is_lone_asked past (Got Begin Up BeginCommitOne) = is_lone past
is_lone_asked past _ = true

-- a history in which the coordinator never stopped, nothing bad came, no end was a veto, and exactly one was asked to decide alone
pub record IsFine (h : List Entry) : Type 0 where
  pub wired : IsWired h
  pub in_time : always is_asked_in_time h ≡ true
  pub unbad : has is_bad h ≡ false
  pub spared : always is_spared h ≡ true
  pub lone : always is_lone_asked h ≡ true

-- an enlistment of this number was made, with a class that passes
abbrev pub is_made : ℕ → (Class → Bool) → Entry → Bool
is_made e q (Enlisted f c) = (e == f.value) && q c
is_made e q _ = false

abbrev pub any_class : Class → Bool
any_class c = true

-- the entry that aborts, after which a decision comes directly, or after the promotion's failure
abbrev pub blames : List Entry → Bool
blames (PromotionFailed ∷ h) = ends_refused h
blames h = ends_refused h

abbrev pub ends_requested : List Entry → Bool
ends_requested (Requested e Abort ∷ h) = true
ends_requested _ = false

abbrev pub ends_aborted : List Entry → Bool
ends_aborted (Got (Enl e) Down EnlistAbort ∷ h) = true
ends_aborted (Got (Again e) Down ReenlistAborted ∷ h) = true
ends_aborted _ = false

-- a message that is sent: an abort, a No or an owner's answer of the local side for its cause, the coordinator's doubt where the one that it let decide was in doubt or was lost, and what else is bad
-- where the coordinator has aborted or was started again
abbrev pub has_cause : List Entry → Message → Bool
has_cause h BeginAbort = is_decided Aborted (latest decision_of h) || ends_requested h
has_cause h VoterNo = is_decided Aborted (latest decision_of h)
has_cause h EnlistNo = has is_no_vote h
has_cause h EnlistOneAborted = has (is_answered Aborted) h
has_cause h EnlistOneInDoubt = has (is_answered InDoubt) h
has_cause h BeginInDoubt = single_doubt h || has is_one_in_doubt h
has_cause h VoterInDoubt = single_doubt h || has is_one_in_doubt h
has_cause h m = not (is_bad_message m) || coordinator_aborted h || has is_restart h

-- Rows of the table of rules: whoever replies was made with a class that does, and what is bad has its cause.
abbrev pub is_caused : List Entry → Entry → Bool
is_caused h (Voted e v) = has (is_made e.value any_class) h
is_caused h (OwnerAnswered e x) = has (is_made e.value can_own) h
is_caused h (PromoteReply e ok) = has (is_made e.value is_promotable) h
is_caused h (Requested e x) = has (is_made e.value is_promotable) h
is_caused h PromotionFailed = ends_refused h
is_caused h (Decided Aborted) = blames h
is_caused h (Decided InDoubt) = doubt h
is_caused h (Told p x) = is_decided x (latest decision_of h) || (same_outcome x Aborted && ends_aborted h) || same_outcome x Committed
is_caused h (Sent c d m) = has_cause h m
is_caused h (Restarted found) = is_stopped h
is_caused h _ = true
