-- A replay of a script with an owner of the commit, and histories with owners, good and bad. Each stands oldest first.
use Rattle.std.proofs.Common.{◌≡◌, ◌==◌, true, false, List, [], ◌∷◌, ◌++◌, Some, refl, lit≤}
use Rattle.dtx_values.specs.declared.number.RmNo.{RmNo}
use Rattle.dtx_values.specs.declared.entry.Answer.TheVariants.{Fine, True, OutcomeIs}
use Rattle.dtx_values.specs.declared.entry.Ask.TheVariants.{Prepare}
use Rattle.dtx_values.specs.declared.entry.Entry.{Entry}
use Rattle.dtx_values.specs.declared.entry.Entry.TheVariants.{Called, Began, Enlisted, Init, CommitAsked, Asked, Voted, Sealed, Handed, OwnerAnswered, Decided, Told}
use Rattle.dtx_values.specs.declared.entry.Party.TheVariants.{Client, Enl}
use Rattle.dtx_values.specs.declared.note.Note.TheVariants.{Prepare as PrepareNote, Hand as HandNote}
use Rattle.dtx_values.specs.declared.note.Reply.TheVariants.{Vote as VoteReply, Owner as OwnerReply}
use Rattle.dtx_values.specs.declared.script.Body.TheVariants.{Begin, Volatile, Promotable, Commit, Await}
use Rattle.dtx_values.specs.declared.script.EnlistOption.TheVariants.{Plain}
use Rattle.dtx_values.specs.declared.script.Line.{Line}
use Rattle.dtx_values.specs.declared.words.Class.TheVariants.{One, DurableSingle, Promotable as PromotableClass}
use Rattle.dtx_values.specs.declared.words.Outcome.TheVariants.{Committed, Aborted, InDoubt}
use Rattle.dtx_values.specs.declared.words.Timeout.TheVariants.{Milliseconds}
use Rattle.dtx_values.specs.declared.words.Vote.TheVariants.{Yes}
use Rattle.dtx_model.specs.Words.{past_of}
use Rattle.dtx_values.specs.Waves.{next_ask, is_over, hears}
use Rattle.dtx_model.specs.Observed.{observe, track}
use Rattle.dtx_model.specs.Coordinated.{coordinate, follow, may_free, may_log}
use Rattle.dtx_model.specs.Acts.{act_entries}
use Rattle.dtx_model.specs.Answers.{local_answer}
use Rattle.dtx_model.specs.Half.{half_of, veto}
use Rattle.dtx_model.specs.Replies.{all_due, due_of, reply_entries}
use Rattle.dtx_model.specs.World.{answer_at}
use Rattle.dtx_model.specs.Steps.{Replies, ReplyOf, block_at, local_pending, pending}
use Rattle.dtx_model.specs.Caused.{Caused, has_object, IsNamed}
use Rattle.dtx_model.specs.Replay.{HasSettled, IsReplayed, LinesRan, StepsRan, world_at}
use Rattle.dtx_values.specs.Owners.{may_own, owner_of}
use Rattle.dtx_model.specs.Outcome.{ready, by_seal, by_owner, by_log, evidence, vetoed, owner_doubt, coordinator_doubt, single_doubt, doubt, may_tell, justified, agree}
use Rattle.script_histories.proofs.Examples.{just_in, agree_in, handed_e2}
use Rattle.script_histories.proofs.ReplayExample.{at_t1, planned_at_t1, acted}
use Rattle.script_histories.proofs.Replays.{replayed_caused}
use Rattle.dtx_model.proofs.Cast.{a1, e1, e2, t1}

abbrev r1 : RmNo
r1 = record { value = 1; in_range = (lit≤ tt, lit≤ tt) }

-- the line `a1 begin t1 0`
abbrev pub begin_line : Line
begin_line = record { actor = a1; body = Begin t1 (Milliseconds 0) }

-- `a1 promotable t1 e2 rm1 yes committed ok`
abbrev pub promotable_line : Line
promotable_line = record { actor = a1; body = Promotable t1 e2 r1 (Some Yes) (Some Committed) (Some true) }

-- `a1 volatile t1 e1 none yes`
abbrev volatile_line : Line
volatile_line = record { actor = a1; body = Volatile t1 e1 Plain (Some Yes) }

-- `a1 commit t1`
abbrev pub commit_line : Line
commit_line = record { actor = a1; body = Commit t1 }

-- `a1 await t1`
abbrev pub await_line : Line
await_line = record { actor = a1; body = Await t1 }

-- a script with an owner and a volatile
abbrev pub owned : List Line
owned = begin_line ∷ promotable_line ∷ volatile_line ∷ commit_line ∷ await_line ∷ []

-- what the line of the promotable does
abbrev pub owner_joined : List Entry
owner_joined = Called 1 a1 Fine ∷ Began 600000 ∷ Called 2 a1 True ∷ Enlisted e2 PromotableClass ∷ Init e2 ∷ []

-- and that of the volatile
abbrev pub both_joined : List Entry
both_joined = owner_joined ++ Called 3 a1 Fine ∷ Enlisted e1 One ∷ []

-- and that of commit
abbrev pub both_asked : List Entry
both_asked = both_joined ++ Called 4 a1 Fine ∷ CommitAsked ∷ []

-- and the steps for which `await` waits: the volatile votes,
abbrev pub both_voted : List Entry
both_voted = both_asked ++ Sealed ∷ Asked e1 Prepare ∷ Voted e1 Yes ∷ []

-- the owner is handed the commit and answers,
abbrev pub owner_answered : List Entry
owner_answered = both_voted ++ Handed e2 ∷ OwnerAnswered e2 Committed ∷ Decided Committed ∷ []

-- and the volatile and the client are told; the owner isn't
abbrev pub both_told : List Entry
both_told = owner_answered ++ Told (Enl e1) Committed ∷ Told Client Committed ∷ []

-- the history of the script
abbrev pub owned_whole : List Entry
owned_whole = both_told ++ Called 5 a1 (OutcomeIs Committed) ∷ []

-- the volatile's vote, and the owner's answer, are as their lines plan
vote_named : IsNamed (world_at owned t1 (at_t1 (both_asked ++ Sealed ∷ Asked e1 Prepare ∷ []))) (ReplyOf e1) (Replies e1 (VoteReply Yes))
unfolding observe due_of
vote_named = (VoteReply Yes, PrepareNote, refl, refl, refl)

answer_named : IsNamed (world_at owned t1 (at_t1 (both_voted ++ Handed e2 ∷ []))) (ReplyOf e2) (Replies e2 (OwnerReply Committed))
unfolding observe due_of
answer_named = (OwnerReply Committed, HandNote, refl, refl, refl)

-- the volatile's vote
vote_steps : StepsRan owned t1 1 3 (at_t1 both_asked) (at_t1 both_voted)
unfolding block_at reply_entries track veto observe pending local_pending all_due due_of act_entries coordinate follow may_log may_free next_ask is_over
vote_steps = (
  at_t1 (both_asked ++ Sealed ∷ Asked e1 Prepare ∷ []),
  acted owned 1 (at_t1 both_asked) (at_t1 (both_asked ++ Sealed ∷ [])) (at_t1 (both_asked ++ Sealed ∷ Asked e1 Prepare ∷ [])) (acted owned 0 (at_t1 both_asked) (at_t1 both_asked) (at_t1 (both_asked ++ Sealed ∷ [])) refl refl refl) refl refl,
  ReplyOf e1,
  Replies e1 (VoteReply Yes),
  refl,
  vote_named,
  refl,
  refl,
)

-- the owner's answer, with the decision
answer_steps : StepsRan owned t1 1 5 (at_t1 both_asked) (at_t1 owner_answered)
unfolding block_at reply_entries track veto observe pending local_pending all_due due_of act_entries coordinate follow may_log may_free next_ask is_over owner_of hears
answer_steps = (at_t1 (both_voted ++ Handed e2 ∷ []), acted owned 3 (at_t1 both_asked) (at_t1 both_voted) (at_t1 (both_voted ++ Handed e2 ∷ [])) vote_steps refl refl, ReplyOf e2, Replies e2 (OwnerReply Committed), refl, answer_named, refl, refl)

-- the steps of the `await`
owned_steps : StepsRan owned t1 1 7 (at_t1 both_asked) (at_t1 both_told)
unfolding block_at reply_entries track veto observe pending local_pending all_due due_of act_entries coordinate follow may_log may_free next_ask is_over owner_of hears
owned_steps =
    let first_told = at_t1 (owner_answered ++ Told (Enl e1) Committed ∷ []) in
    acted owned 6 (at_t1 both_asked) first_told (at_t1 both_told) (acted owned 5 (at_t1 both_asked) (at_t1 owner_answered) first_told answer_steps refl refl) refl refl

-- the `await` waited until nothing was pending
owned_waited : HasSettled owned t1 7 (at_t1 both_asked) (at_t1 both_told)
unfolding observe pending local_pending all_due due_of act_entries coordinate follow may_log may_free hears
owned_waited = record { ran = owned_steps; settled = refl }

-- the lines of the script ran so
owned_run : LinesRan owned (past_of owned) (at_t1 owned_whole)
unfolding block_at answer_at local_answer observe may_own
owned_run = (at_t1 both_asked, (at_t1 both_joined, (at_t1 owner_joined, (at_t1 (Called 1 a1 Fine ∷ Began 600000 ∷ []), ([], refl, refl), refl), refl), refl), (7, at_t1 both_told, owned_waited, refl))

-- the trace is that of a replay of the script
owned_replayed : IsReplayed owned (at_t1 owned_whole)
owned_replayed = record { by_lines = at_t1 owned_whole; lines = owned_run; turns = []; rounds = refl }

-- the script causes the history, and no object answers
pub owned_caused : Caused owned 0 1 (past_of owned_whole)
owned_caused = replayed_caused owned (at_t1 owned_whole) owned_replayed (has_object owned 0) (λ t. planned_at_t1 owned owned_whole refl t (t.value == 1) refl) t1

-- it is just
pub owned_is_just : just_in owned_whole ≡ true
unfolding justified may_tell evidence ready by_seal by_owner by_log
owned_is_just = refl

-- and its outcomes agree
pub owned_agrees : agree_in owned_whole ≡ true
unfolding agree
owned_agrees = refl

-- the owner is told no commit: after the volatile, the client is next
pub owner_is_untold : act_entries (half_of [] (past_of (owner_answered ++ Told (Enl e1) Committed ∷ []))) ≡ Told Client Committed ∷ []
unfolding observe act_entries hears
owner_is_untold = refl

-- one owner, which answered in doubt
abbrev pub doubted_e2 : List Entry
doubted_e2 = handed_e2 ++ OwnerAnswered e2 InDoubt ∷ Decided InDoubt ∷ []

-- the client may be told that it is in doubt
pub client_hears_doubt : just_in (doubted_e2 ++ Told Client InDoubt ∷ []) ≡ true
unfolding justified may_tell doubt owner_doubt coordinator_doubt single_doubt
client_hears_doubt = refl

-- a durable may not
pub durable_hears_none : just_in (doubted_e2 ++ Told (Enl e2) InDoubt ∷ []) ≡ false
unfolding justified may_tell doubt owner_doubt coordinator_doubt single_doubt
durable_hears_none = refl

-- one owner, which answered aborted
abbrev pub refused_e2 : List Entry
refused_e2 = handed_e2 ++ OwnerAnswered e2 Aborted ∷ []

-- that is a veto
pub owner_aborted_it : just_in (refused_e2 ++ Decided Aborted ∷ Told Client Aborted ∷ []) ≡ true
unfolding justified may_tell evidence ready by_seal by_owner by_log vetoed
owner_aborted_it = refl

-- a client that is told committed there is told without evidence
pub refused_told_committed : just_in (refused_e2 ++ Told Client Committed ∷ []) ≡ false
unfolding justified may_tell evidence ready by_seal by_owner by_log
refused_told_committed = refl

-- and doesn't agree with the owner
pub refused_disagrees : agree_in (refused_e2 ++ Told Client Committed ∷ []) ≡ false
unfolding agree
refused_disagrees = refl

-- an owner that was only handed the commit is no evidence
pub handed_is_unjust : just_in (handed_e2 ++ Told Client Committed ∷ []) ≡ false
unfolding justified may_tell evidence ready by_seal by_owner by_log
handed_is_unjust = refl

-- nor is one of two
pub second_is_unjust : just_in (Began 600000 ∷ Enlisted e1 DurableSingle ∷ Enlisted e2 DurableSingle ∷ CommitAsked ∷ Sealed ∷ Handed e2 ∷ OwnerAnswered e2 Committed ∷ Decided Committed ∷ []) ≡ false
unfolding justified may_tell evidence ready by_seal by_owner by_log
second_is_unjust = refl
