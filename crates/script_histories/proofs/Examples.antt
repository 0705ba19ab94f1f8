-- Histories, good and bad, that show what the definitions of evidence, vetoes, agreement and timeouts say. Each stands oldest first.
use Rattle.std.proofs.Common.{◌≡◌, Bool, true, false, List, [], ◌∷◌, ◌++◌, refl, lit≤}
use Rattle.dtx_values.specs.declared.number.CloneNo.{CloneNo}
use Rattle.dtx_values.specs.declared.entry.Answer.TheVariants.{Fine}
use Rattle.dtx_values.specs.declared.entry.Ask.TheVariants.{Prepare}
use Rattle.dtx_values.specs.declared.entry.Entry.{Entry}
use Rattle.dtx_values.specs.declared.entry.Entry.TheVariants.{Called, Began, Cloned, Completed, Enlisted, CommitAsked, RollbackAsked, Clock, TimedOut, Late}
use Rattle.dtx_values.specs.declared.entry.Entry.TheVariants.{Asked, Voted, Sealed, Handed, OwnerAnswered, Decided, Told, Promoted, Lost, Logged}
use Rattle.dtx_values.specs.declared.entry.Party.TheVariants.{Client, Enl}
use Rattle.dtx_values.specs.declared.words.Cause.TheVariants.{Two}
use Rattle.dtx_values.specs.declared.words.Class.TheVariants.{Zero, One, DurableSingle, DurableTwo}
use Rattle.dtx_values.specs.declared.words.CloneKind.TheVariants.{Block, Rollback}
use Rattle.dtx_values.specs.declared.words.Outcome.TheVariants.{Committed, Aborted, InDoubt}
use Rattle.dtx_values.specs.declared.words.Vote.TheVariants.{Yes, No, Done}
use Rattle.dtx_model.specs.Words.{always, past_of}
use Rattle.dtx_model.specs.Seen.{is_timely}
use Rattle.dtx_model.specs.Outcome.{ready, by_seal, by_owner, by_log, evidence, vetoed, owner_doubt, coordinator_doubt, single_doubt, doubt, may_tell, justified, agree}
use Rattle.dtx_model.proofs.Cast.{a1, e1, e2}

abbrev pub c1 : CloneNo
c1 = record { value = 1; in_range = (lit≤ tt, lit≤ tt) }

-- what is told in this history, oldest first, is just
abbrev pub just_in : List Entry → Bool
just_in xs = justified (past_of xs)

-- its outcomes agree
abbrev pub agree_in : List Entry → Bool
agree_in xs = agree (past_of xs)

-- the commit of one volatile
abbrev pub asked_e1 : List Entry
asked_e1 = Called 1 a1 Fine ∷ Began 600000 ∷ Called 2 a1 Fine ∷ Enlisted e1 One ∷ Called 3 a1 Fine ∷ CommitAsked ∷ Sealed ∷ Asked e1 Prepare ∷ []

-- its whole history
abbrev pub committed_e1 : List Entry
committed_e1 = asked_e1 ++ Voted e1 Yes ∷ Decided Committed ∷ Told (Enl e1) Committed ∷ Told Client Committed ∷ []

-- the commit of one volatile is just
pub commit_is_just : just_in committed_e1 ≡ true
unfolding justified may_tell evidence ready by_seal by_owner by_log
commit_is_just = refl

-- and its outcomes agree
pub commit_agrees : agree_in committed_e1 ≡ true
unfolding agree
commit_agrees = refl

-- told before the vote
pub early_is_unjust : just_in (asked_e1 ++ Told Client Committed ∷ []) ≡ false
unfolding justified may_tell evidence ready by_seal by_owner by_log
early_is_unjust = refl

-- committed after a no
pub refused_is_unjust : just_in (asked_e1 ++ Voted e1 No ∷ Decided Committed ∷ []) ≡ false
unfolding justified may_tell evidence ready by_seal by_owner by_log
refused_is_unjust = refl

-- committed though commit wasn't asked
pub unasked_is_unjust : just_in (Began 600000 ∷ Enlisted e1 One ∷ Sealed ∷ Asked e1 Prepare ∷ Voted e1 Yes ∷ Decided Committed ∷ []) ≡ false
unfolding justified may_tell evidence ready by_seal by_owner by_log
unasked_is_unjust = refl

-- committed though it wasn't sealed
pub unsealed_is_unjust : just_in (Began 600000 ∷ Enlisted e1 One ∷ CommitAsked ∷ Asked e1 Prepare ∷ Voted e1 Yes ∷ Decided Committed ∷ []) ≡ false
unfolding justified may_tell evidence ready by_seal by_owner by_log
unsealed_is_unjust = refl

-- committed while a clone is open
pub open_clone_is_unjust : just_in (Began 600000 ∷ Cloned c1 Block ∷ CommitAsked ∷ Sealed ∷ Decided Committed ∷ []) ≡ false
unfolding justified may_tell evidence ready by_seal by_owner by_log
open_clone_is_unjust = refl

-- committed once the clone is complete
pub complete_clone_is_just : just_in (Began 600000 ∷ Cloned c1 Block ∷ CommitAsked ∷ Completed c1 ∷ Sealed ∷ Decided Committed ∷ []) ≡ true
unfolding justified may_tell evidence ready by_seal by_owner by_log
complete_clone_is_just = refl

-- an abort that no veto stands before
pub groundless_is_unjust : just_in (Began 600000 ∷ CommitAsked ∷ Told Client Aborted ∷ []) ≡ false
unfolding justified may_tell evidence ready by_seal by_owner by_log vetoed
groundless_is_unjust = refl

-- an abort after a no
pub abort_behind_no : just_in (asked_e1 ++ Voted e1 No ∷ Decided Aborted ∷ Told Client Aborted ∷ []) ≡ true
unfolding justified may_tell evidence ready by_seal by_owner by_log vetoed
abort_behind_no = refl

-- an abort after a rollback
pub abort_behind_rollback : just_in (Began 600000 ∷ RollbackAsked ∷ Decided Aborted ∷ Told Client Aborted ∷ []) ≡ true
unfolding justified may_tell evidence ready by_seal by_owner by_log vetoed
abort_behind_rollback = refl

-- an abort after a timeout
pub abort_behind_timeout : just_in (Began 600000 ∷ TimedOut ∷ Decided Aborted ∷ Told Client Aborted ∷ []) ≡ true
unfolding justified may_tell evidence ready by_seal by_owner by_log vetoed
abort_behind_timeout = refl

-- commit over an open clone of the kind that rolls back is a veto
pub abort_behind_clone : just_in (Began 600000 ∷ Cloned c1 Rollback ∷ CommitAsked ∷ Decided Aborted ∷ []) ≡ true
unfolding justified may_tell evidence ready by_seal by_owner by_log vetoed
abort_behind_clone = refl

-- a veto that comes after the evidence doesn't justify an abort
pub late_no_is_unjust : just_in (Began 600000 ∷ CommitAsked ∷ Sealed ∷ RollbackAsked ∷ Told Client Aborted ∷ []) ≡ false
unfolding justified may_tell evidence ready by_seal by_owner by_log vetoed
late_no_is_unjust = refl

-- one owner: it was handed the commit
abbrev pub handed_e2 : List Entry
handed_e2 = Began 600000 ∷ Enlisted e2 DurableSingle ∷ CommitAsked ∷ Sealed ∷ Handed e2 ∷ []

-- the seal is no evidence where an owner decides
pub owner_decides : just_in (Began 600000 ∷ Enlisted e2 DurableSingle ∷ CommitAsked ∷ Sealed ∷ Decided Committed ∷ []) ≡ false
unfolding justified may_tell evidence ready by_seal by_owner by_log
owner_decides = refl

-- the owner answered committed
pub owner_committed_it : just_in (handed_e2 ++ OwnerAnswered e2 Committed ∷ Decided Committed ∷ Told Client Committed ∷ []) ≡ true
unfolding justified may_tell evidence ready by_seal by_owner by_log
owner_committed_it = refl

-- it was enlisted again, in a class that couldn't own the commit: it is enough that some of its classes can
pub owner_by_either_class : just_in (Began 600000 ∷ Enlisted e2 DurableSingle ∷ Enlisted e2 DurableTwo ∷ CommitAsked ∷ Sealed ∷ Handed e2 ∷ OwnerAnswered e2 Committed ∷ Told Client Committed ∷ []) ≡ true
unfolding justified may_tell evidence ready by_seal by_owner by_log
owner_by_either_class = refl

-- whose class never could is no owner, whatever it answers
pub no_owner_by_class : just_in (Began 600000 ∷ Enlisted e2 DurableTwo ∷ Enlisted e2 DurableTwo ∷ CommitAsked ∷ Sealed ∷ Handed e2 ∷ OwnerAnswered e2 Committed ∷ Told Client Committed ∷ []) ≡ false
unfolding justified may_tell evidence ready by_seal by_owner by_log
no_owner_by_class = refl

-- and where another durable is enlisted, nobody owns the commit
pub two_durables_no_owner : just_in (Began 600000 ∷ Enlisted e2 DurableSingle ∷ Enlisted e1 DurableTwo ∷ CommitAsked ∷ Sealed ∷ Handed e2 ∷ OwnerAnswered e2 Committed ∷ Told Client Committed ∷ []) ≡ false
unfolding justified may_tell evidence ready by_seal by_owner by_log
two_durables_no_owner = refl

-- a timeout after the handing doesn't justify an abort
pub timeout_behind_handing : just_in (handed_e2 ++ TimedOut ∷ Told Client Aborted ∷ []) ≡ false
unfolding justified may_tell evidence ready by_seal by_owner by_log vetoed
timeout_behind_handing = refl

-- an owner that is lost after the handing leaves doubt
pub lost_owner_is_doubt : just_in (handed_e2 ++ Lost e2 ∷ Decided InDoubt ∷ Told Client InDoubt ∷ []) ≡ true
unfolding justified may_tell evidence ready by_seal by_owner by_log vetoed doubt owner_doubt coordinator_doubt single_doubt
lost_owner_is_doubt = refl

-- that loss doesn't justify an abort
pub lost_owner_is_no_abort : just_in (handed_e2 ++ Lost e2 ∷ Decided Aborted ∷ []) ≡ false
unfolding justified may_tell evidence ready by_seal by_owner by_log vetoed doubt owner_doubt coordinator_doubt single_doubt
lost_owner_is_no_abort = refl

-- an owner that is only silent leaves no doubt
pub silent_owner_is_no_doubt : just_in (handed_e2 ++ Told Client InDoubt ∷ []) ≡ false
unfolding justified may_tell evidence ready by_seal by_owner by_log vetoed doubt owner_doubt coordinator_doubt single_doubt
silent_owner_is_no_doubt = refl

-- after a promotion the durables vote too, and the record is the evidence
abbrev pub promoted_e2 : List Entry
promoted_e2 = Began 600000 ∷ Enlisted e2 DurableTwo ∷ Promoted 7 Two ∷ CommitAsked ∷ Sealed ∷ Asked e2 Prepare ∷ []

-- committed after the record
pub logged_is_just : just_in (promoted_e2 ++ Voted e2 Yes ∷ Logged ∷ Decided Committed ∷ []) ≡ true
unfolding justified may_tell evidence ready by_seal by_owner by_log
logged_is_just = refl

-- committed without the record
pub unlogged_is_unjust : just_in (promoted_e2 ++ Voted e2 Yes ∷ Decided Committed ∷ []) ≡ false
unfolding justified may_tell evidence ready by_seal by_owner by_log
unlogged_is_unjust = refl

-- committed though the durable hasn't voted
pub durable_must_vote : just_in (promoted_e2 ++ Logged ∷ Decided Committed ∷ []) ≡ false
unfolding justified may_tell evidence ready by_seal by_owner by_log
durable_must_vote = refl

-- two decisions
pub decided_twice : agree_in (Began 600000 ∷ CommitAsked ∷ Sealed ∷ Decided Committed ∷ Decided Committed ∷ []) ≡ false
unfolding agree
decided_twice = refl

-- two parties that are told opposite outcomes
pub told_apart : agree_in (Began 600000 ∷ Told (Enl e1) Committed ∷ Told Client Aborted ∷ []) ≡ false
unfolding agree
told_apart = refl

-- doubt agrees with each
pub doubt_agrees : agree_in (Began 600000 ∷ Told (Enl e1) Committed ∷ Told Client InDoubt ∷ []) ≡ true
unfolding agree
doubt_agrees = refl

-- phase zero: a Zero enlistment is asked and votes before the seal
abbrev pub sealed_zero : List Entry
sealed_zero = Began 600000 ∷ Enlisted e1 Zero ∷ CommitAsked ∷ Asked e1 Prepare ∷ Voted e1 Done ∷ Sealed ∷ []

-- the votes of phase zero are evidence once it is sealed
pub zero_is_just : just_in (sealed_zero ++ Decided Committed ∷ Told Client Committed ∷ []) ≡ true
unfolding justified may_tell evidence ready by_seal by_owner by_log
zero_is_just = refl

-- a timeout after evidence by the seal doesn't justify an abort
pub timeout_behind_seal : just_in (sealed_zero ++ TimedOut ∷ Told Client Aborted ∷ []) ≡ false
unfolding justified may_tell evidence ready by_seal by_owner by_log vetoed
timeout_behind_seal = refl

-- a rollback after evidence by the seal doesn't justify an abort
pub rollback_behind_seal : just_in (sealed_zero ++ RollbackAsked ∷ Decided Aborted ∷ []) ≡ false
unfolding justified may_tell evidence ready by_seal by_owner by_log vetoed
rollback_behind_seal = refl

-- a timeout after the seal that comes before a vote does
pub timeout_before_vote : just_in (Began 600000 ∷ Enlisted e1 One ∷ CommitAsked ∷ Sealed ∷ Asked e1 Prepare ∷ TimedOut ∷ Decided Aborted ∷ Told (Enl e1) Aborted ∷ []) ≡ true
unfolding justified may_tell evidence ready by_seal by_owner by_log vetoed
timeout_before_vote = refl

-- committed over an open clone that a commit waits for
pub open_block_is_unjust : just_in (Began 600000 ∷ Cloned c1 Block ∷ CommitAsked ∷ Decided Committed ∷ []) ≡ false
unfolding justified may_tell evidence ready by_seal by_owner by_log
open_block_is_unjust = refl

-- nor is that a veto
pub open_block_is_no_veto : just_in (Began 600000 ∷ Cloned c1 Block ∷ CommitAsked ∷ Decided Aborted ∷ []) ≡ false
unfolding justified may_tell evidence ready by_seal by_owner by_log vetoed
open_block_is_no_veto = refl

-- a clone that was complete before commit was asked is none
pub complete_rollback_is_no_veto : just_in (Began 600000 ∷ Cloned c1 Rollback ∷ Completed c1 ∷ CommitAsked ∷ Decided Aborted ∷ []) ≡ false
unfolding justified may_tell evidence ready by_seal by_owner by_log vetoed
complete_rollback_is_no_veto = refl

-- an abort that is told to everybody after a rollback
pub rollback_told : just_in (Began 600000 ∷ Enlisted e1 One ∷ RollbackAsked ∷ Decided Aborted ∷ Told (Enl e1) Aborted ∷ Told Client Aborted ∷ []) ≡ true
unfolding justified may_tell evidence ready by_seal by_owner by_log vetoed
rollback_told = refl

-- one voted yes and another no
abbrev pub one_no_e2 : List Entry
one_no_e2 = CommitAsked ∷ Sealed ∷ Asked e1 Prepare ∷ Voted e1 Yes ∷ Asked e2 Prepare ∷ Voted e2 No ∷ Decided Aborted ∷ []

-- a vote no aborts, though another voted yes
pub one_no_aborts : just_in (Began 600000 ∷ Enlisted e1 One ∷ Enlisted e2 One ∷ one_no_e2) ≡ true
unfolding justified may_tell evidence ready by_seal by_owner by_log vetoed
one_no_aborts = refl

-- committed and aborted, by a decision and by what is told
pub decided_apart : agree_in (Began 600000 ∷ CommitAsked ∷ Sealed ∷ Decided Committed ∷ Told Client Aborted ∷ []) ≡ false
unfolding agree
decided_apart = refl

-- the timeouts in this history, oldest first, come where they may
abbrev pub timely_in : List Entry → Bool
timely_in xs = always is_timely (past_of xs)

-- a timeout at the first tick that reaches it
pub first_tick_is_timely : timely_in (Began 10 ∷ Clock 4 ∷ Clock 12 ∷ TimedOut ∷ Decided Aborted ∷ Clock 30 ∷ []) ≡ true
first_tick_is_timely = refl

-- one before it is reached
pub early_is_untimely : timely_in (Began 10 ∷ Clock 4 ∷ TimedOut ∷ []) ≡ false
early_is_untimely = refl

-- one at a later tick
pub later_is_untimely : timely_in (Began 10 ∷ Clock 12 ∷ Clock 30 ∷ Late ∷ []) ≡ false
later_is_untimely = refl

-- a second one
pub second_is_untimely : timely_in (Began 10 ∷ Clock 12 ∷ TimedOut ∷ Clock 30 ∷ TimedOut ∷ []) ≡ false
second_is_untimely = refl

-- two after one tick
pub doubled_is_untimely : timely_in (Began 10 ∷ Clock 12 ∷ TimedOut ∷ Late ∷ []) ≡ false
doubled_is_untimely = refl

-- one of what wasn't begun
pub unbegun_is_untimely : timely_in (Clock 12 ∷ TimedOut ∷ []) ≡ false
unbegun_is_untimely = refl
