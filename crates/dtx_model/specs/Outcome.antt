-- Who votes, what is evidence, a veto or doubt, what may be told, and who agrees. These definitions read one history and know of
-- no phase, queue, slot or place of the commit right.
use Rattle.std.specs.Prelude.{Bool, true, false, Option, Some, None, ◌&&◌, ◌||◌, ◌==◌, not, List, [], ◌∷◌, ◌++◌, filter, if◌then◌else◌, ℕ}
use Rattle.dtx_values.specs.declared.number.CloneNo.{CloneNo}
use Rattle.dtx_values.specs.declared.number.EnlNo.{EnlNo}
use Rattle.dtx_values.specs.declared.entry.Entry.{Entry}
use Rattle.dtx_values.specs.declared.entry.Entry.TheVariants.{CommitAsked, RollbackAsked, TimedOut, Voted, PromoteReply, Requested, OwnerAnswered, Decided, Told, Got, Down, Lost, LogFull, Restarted}
use Rattle.dtx_values.specs.declared.entry.Request.TheVariants.{Abort}
use Rattle.dtx_values.specs.declared.entry.Party.{Party}
use Rattle.dtx_values.specs.declared.entry.Party.TheVariants.{Client, Enl}
use Rattle.dtx_values.specs.declared.message.Conn.{Conn}
use Rattle.dtx_values.specs.declared.message.Conn.TheVariants.{Begin, Voter, Enl as OnEnl, Again}
use Rattle.dtx_values.specs.declared.message.Dir.{Dir}
use Rattle.dtx_values.specs.declared.message.Dir.TheVariants.{Up, Down as Downward}
use Rattle.dtx_values.specs.declared.message.Message.TheVariants.{BeginCommitOne, BeginCommitted, BeginAborted, VoterCommit, VoterAbort}
use Rattle.dtx_values.specs.declared.words.Class.{Class}
use Rattle.dtx_values.specs.declared.words.Class.TheVariants.{DurableSingle, Promotable}
use Rattle.dtx_values.specs.declared.words.CloneKind.{CloneKind}
use Rattle.dtx_values.specs.declared.words.CloneKind.TheVariants.{Block, Rollback}
use Rattle.dtx_values.specs.declared.words.Outcome.{Outcome}
use Rattle.dtx_values.specs.declared.words.Outcome.TheVariants.{Committed, Aborted, InDoubt}
use Rattle.dtx_values.specs.declared.words.Vote.TheVariants.{No}
use Rattle.dtx_model.specs.Words.{has, each, ever, always, all_of}
use Rattle.dtx_values.specs.Class.{is_volatile}
use Rattle.dtx_values.specs.Table.{how_many}
use Rattle.dtx_model.specs.Entries.{is_commit, is_sealed, is_promoted, is_record, is_yes, is_hand, is_any_hand, handed_of, is_owner, is_any_owner, enlisted_of, clone_of, is_completed, is_vote, is_good_vote, is_commit_got, is_yes_got, is_vote_got, is_enlist_got, is_single_sent, is_any_single_sent, is_one_got, is_decision, is_final}
use Rattle.dtx_values.specs.Lines.{has_line}

-- the enlistments with their classes, newest first
abbrev pub enlisted : List Entry → List (EnlNo × Class)
enlisted h = all_of enlisted_of h

-- the volatile enlistments
abbrev pub volatiles : List Entry → List (EnlNo × Class)
volatiles h = filter (λ x. is_volatile x.1) (enlisted h)

-- the durable and promotable enlistments
abbrev pub durables : List Entry → List (EnlNo × Class)
durables h = filter (λ x. not (is_volatile x.1)) (enlisted h)

-- the durables and promotables vote too: it is promoted, and none of them was asked to decide in a single phase
abbrev pub all_vote : List Entry → Bool
all_vote h = has is_promoted h && not (has is_any_single_sent h)

-- all volatiles vote, and after a promotion the durables and promotables too, unless one of them was asked to decide alone
abbrev pub voters : List Entry → List (EnlNo × Class)
voters h = if all_vote h then volatiles h ++ durables h else volatiles h

-- this clone is complete
abbrev pub is_complete : List Entry → CloneNo × CloneKind → Bool
is_complete h c = has (is_completed c.0.value) h

-- commit was asked, each clone is complete, and each voter voted yes or done
unfoldable pub ready : List Entry → Bool
ready h = has is_commit h && each (λ c. is_complete h c) (all_of clone_of h) && each (λ x. has (is_good_vote x.0.value) h) (voters h)

abbrev pub is_empty : {A : Type 0} → List A → Bool
is_empty [] = true
is_empty (x ∷ xs) = false

-- evidence by the seal: sealed, not promoted, and no durable or promotable was enlisted
unfoldable pub by_seal : List Entry → Bool
by_seal h = has is_sealed h && not (has is_promoted h) && is_empty (durables h)

-- the class of an enlistment that can own the commit
abbrev pub can_own : Class → Bool
can_own DurableSingle = true
can_own Promotable = true
can_own _ = false

-- this one may decide: nothing was promoted, or the coordinator let it decide in a single phase
abbrev pub may_decide : List Entry → ℕ → Bool
may_decide h e = not (has is_promoted h) || has (is_single_sent e) h

-- the durables and promotables are this one enlistment, which can own the commit by some class that it was enlisted in; it may decide, was handed the commit, and answered committed
abbrev pub owner_committed : List Entry → List (EnlNo × Class) → Bool
owner_committed h [] = false
owner_committed h (x ∷ xs) =
    each (λ y. x.0.value == y.0.value) xs && has (λ y. can_own y.1) (x ∷ xs) && may_decide h x.0.value && has (is_hand x.0.value) h && has (is_owner x.0.value Committed) h

-- evidence by the owner: the one durable or promotable decided
unfoldable pub by_owner : List Entry → Bool
by_owner h = owner_committed h (durables h)

-- evidence by the log, where it was promoted
unfoldable pub by_log : List Entry → Bool
by_log h = has is_promoted h && has is_record h

-- it is ready, and the seal, the owner or the log says so
unfoldable pub evidence : List Entry → Bool
evidence h = ready h && (by_seal h || by_owner h || by_log h)

-- a clone that makes a commit a veto while it isn't complete
abbrev pub is_rollback : CloneKind → Bool
is_rollback Rollback = true
is_rollback Block = false

-- the coordinator got the ENLIST of exactly one
abbrev pub is_lone : List Entry → Bool
is_lone h = how_many is_enlist_got h == 1

-- the end of this connection, seen on this side, is a veto: it came before the local yes or the vote of its enlistment, at the coordinator before the COMMIT, the YES or the vote
-- that the connection brings, and before SINGLE
abbrev pub is_veto_end : List Entry → Conn → Dir → Bool
is_veto_end h Begin Downward = not (has is_yes h)
is_veto_end h Voter Downward = not (has is_yes h)
is_veto_end h (OnEnl e) Downward = not (has is_yes h) && not (has (is_vote e.value) h)
is_veto_end h Begin Up = not (has is_commit_got h)
is_veto_end h Voter Up = not (has is_yes_got h)
is_veto_end h (OnEnl e) Up = not (has (is_vote_got e.value) h) && not (has (is_single_sent e.value) h)
is_veto_end h (Again e) d = false

-- the entry is a veto after this history. A message that has no line counts as the end of its connection,
-- and so does COMMIT for a single phase where not exactly one enlistment came.
abbrev pub is_veto : List Entry → Entry → Bool
is_veto h RollbackAsked = not (has is_yes h) && not (has is_any_hand h)
is_veto h TimedOut = not (has is_yes h) && not (has is_any_hand h)
is_veto h (Voted e No) = true
is_veto h (OwnerAnswered e Aborted) = true
is_veto h (PromoteReply e ok) = not ok
is_veto h (Requested e Abort) = true
is_veto h LogFull = true
is_veto h (Restarted found) = not found
is_veto h CommitAsked = has (λ c. is_rollback c.1 && not (is_complete h c)) (all_of clone_of h)
is_veto h (Lost e) = not (has (is_vote e.value) h) && not (has (is_hand e.value) h)
is_veto h (Down c d) = is_veto_end h c d
is_veto h (Got Begin Up BeginCommitOne) = not (is_lone h) && is_veto_end h Begin Up
is_veto h (Got c d m) = not (has_line c d m) && is_veto_end h c d
is_veto h _ = false

-- a veto before which no evidence stood
abbrev pub is_first_veto : List Entry → Entry → Bool
is_first_veto past e = is_veto past e && not (evidence past)

-- such a veto came
unfoldable pub vetoed : List Entry → Bool
vetoed h = ever is_first_veto h

-- the owner was lost after the handing, and hadn't answered
abbrev pub is_lost_owner : List Entry → Entry → Bool
is_lost_owner past (Lost e) = has (is_hand e.value) past && not (has (is_any_owner e.value) past)
is_lost_owner past _ = false

-- doubt by the owner: it was handed the commit, and answered in doubt or was lost without an answer
unfoldable pub owner_doubt : List Entry → Bool
owner_doubt h = has (λ e. has (is_owner e.value InDoubt) h) (all_of handed_of h) || ever is_lost_owner h

-- the local side saw the end of b
abbrev pub is_begin_end : Entry → Bool
is_begin_end (Down Begin Downward) = true
is_begin_end (Got Begin Downward m) = not (has_line Begin Downward m)
is_begin_end _ = false

-- the local side saw the end of v
abbrev pub is_voter_end : Entry → Bool
is_voter_end (Down Voter Downward) = true
is_voter_end (Got Voter Downward m) = not (has_line Voter Downward m)
is_voter_end _ = false

-- the local side got the outcome on b or on v
abbrev pub is_outcome_got : Entry → Bool
is_outcome_got (Got Begin Downward BeginCommitted) = true
is_outcome_got (Got Begin Downward BeginAborted) = true
is_outcome_got (Got Voter Downward VoterCommit) = true
is_outcome_got (Got Voter Downward VoterAbort) = true
is_outcome_got _ = false

-- doubt by the coordinator: the local side said yes, saw both connections end, and heard no outcome
unfoldable pub coordinator_doubt : List Entry → Bool
coordinator_doubt h = has is_yes h && has is_begin_end h && has is_voter_end h && not (has is_outcome_got h)

-- the enlistment whose connection ends for the coordinator by the entry
abbrev pub ended_there : Entry → Option EnlNo
ended_there (Down (OnEnl e) Up) = Some e
ended_there (Got (OnEnl e) Up m) = if has_line (OnEnl e) Up m then None else Some e
ended_there _ = None

-- SINGLE was sent to this enlistment, and no answer of it was got
abbrev pub is_deciding : List Entry → Option EnlNo → Bool
is_deciding past (Some e) = has (is_single_sent e.value) past && not (has (is_one_got e.value) past)
is_deciding past None = false

-- by the entry the coordinator lost the one that it let decide, before that one answered
abbrev pub is_lost_single : List Entry → Entry → Bool
is_lost_single past x = is_deciding past (ended_there x)

-- doubt by the one that the coordinator let decide: its connection ended before it answered
unfoldable pub single_doubt : List Entry → Bool
single_doubt h = ever is_lost_single h

-- whoever held the commit answered in doubt, or was lost
unfoldable pub doubt : List Entry → Bool
doubt h = owner_doubt h || coordinator_doubt h || single_doubt h

-- the client and the volatiles may hear that the outcome is in doubt
abbrev pub hears_doubt : List Entry → Party → Bool
hears_doubt h Client = true
hears_doubt h (Enl e) = has (λ x. e.value == x.0.value) (volatiles h)

-- what may be told after this history: committed on evidence, aborted after a veto where no evidence stands, in doubt where doubt stands, and to the client and the volatiles alone
unfoldable pub may_tell : List Entry → Party → Outcome → Bool
may_tell h p Committed = evidence h
may_tell h p Aborted = vetoed h && not (evidence h)
may_tell h p InDoubt = hears_doubt h p && doubt h

-- what is told or decided by the entry may be told after this history
abbrev pub is_just : List Entry → Entry → Bool
is_just past (Told p o) = may_tell past p o
is_just past (Decided o) = may_tell past Client o
is_just past _ = true

-- Justified: whatever was told or decided could be, after what came before it
unfoldable pub justified : List Entry → Bool
justified h = always is_just h

-- a second decision
abbrev pub is_decided_again : List Entry → Entry → Bool
is_decided_again past e = is_decision e && has is_decision past

-- not both committed and aborted, to whomever; and at most one decision
unfoldable pub agree : List Entry → Bool
agree h = not (has (is_final Committed) h && has (is_final Aborted) h) && not (ever is_decided_again h)
