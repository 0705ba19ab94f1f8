-- A replay of a script whose owner is lost after the handing of the commit, and histories with losses, good and bad. Each stands oldest first.
use Rattle.std.proofs.Common.{◌≡◌, ◌==◌, true, false, List, [], ◌∷◌, ◌++◌, refl, arith, lit≤}
use Rattle.dtx_values.specs.declared.entry.Answer.TheVariants.{Fine, Did, OutcomeIs}
use Rattle.dtx_values.specs.declared.entry.Ask.TheVariants.{Prepare}
use Rattle.dtx_values.specs.declared.entry.Entry.{Entry}
use Rattle.dtx_values.specs.declared.entry.Entry.TheVariants.{Called, Began, Enlisted, CommitAsked, Asked, Voted, Sealed, Handed, OwnerAnswered, Decided, Told, Lost, Reenlisted}
use Rattle.dtx_values.specs.declared.entry.Party.TheVariants.{Client, Enl}
use Rattle.dtx_values.specs.declared.script.Body.TheVariants.{Do, Gone}
use Rattle.dtx_values.specs.declared.script.Line.{Line}
use Rattle.dtx_values.specs.declared.words.Class.TheVariants.{One, DurableSingle}
use Rattle.dtx_values.specs.declared.words.Outcome.TheVariants.{Committed, Aborted, InDoubt}
use Rattle.dtx_values.specs.declared.words.Vote.TheVariants.{Yes}
use Rattle.dtx_model.specs.Words.{past_of}
use Rattle.dtx_values.specs.Waves.{next_ask, is_over, hears}
use Rattle.dtx_model.specs.Observed.{observe, track}
use Rattle.dtx_model.specs.Coordinated.{coordinate, follow, may_free, may_log}
use Rattle.dtx_model.specs.Acts.{act_entries}
use Rattle.dtx_model.specs.Answers.{local_answer}
use Rattle.dtx_model.specs.Replies.{all_due, due_of}
use Rattle.dtx_model.specs.World.{answer_at}
use Rattle.dtx_model.specs.Steps.{Acts, LocalAct, block_at, local_pending, pending}
use Rattle.dtx_model.specs.Caused.{Caused, has_object}
use Rattle.dtx_model.specs.Seen.{is_away}
use Rattle.dtx_model.specs.Replay.{HasDoneAt, HasSettled, IsReplayed, LinesRan}
use Rattle.dtx_values.specs.Owners.{may_own, owner_of}
use Rattle.dtx_model.specs.Outcome.{ready, by_seal, by_owner, by_log, evidence, vetoed, owner_doubt, coordinator_doubt, single_doubt, doubt, may_tell, justified}
use Rattle.script_histories.proofs.Examples.{just_in, handed_e2}
use Rattle.script_histories.proofs.ReplayExample.{at_t1, planned_at_t1}
use Rattle.script_histories.proofs.OwnerExample.{begin_line, promotable_line, commit_line, await_line, owner_joined}
use Rattle.script_histories.proofs.Replays.{replayed_caused}
use Rattle.dtx_model.proofs.Cast.{a1, e1, e2, t1}

-- `a1 begin t1 0`, `a1 promotable t1 e2 rm1 yes committed ok`, `a1 commit t1`, `a1 do t1 1 2`, `a1 gone e2` and `a1 await t1`
abbrev pub losing : List Line
losing = begin_line ∷ promotable_line ∷ commit_line ∷ record { actor = a1; body = Do t1 1 2 } ∷ record { actor = a1; body = Gone e2 } ∷ await_line ∷ []

-- what the lines up to commit do
abbrev pub owner_asked : List Entry
owner_asked = owner_joined ++ Called 3 a1 Fine ∷ CommitAsked ∷ []

-- and the two steps of `do`
abbrev pub owner_handed : List Entry
owner_handed = owner_asked ++ Sealed ∷ Handed e2 ∷ []

-- and its call
abbrev pub handed_over : List Entry
handed_over = owner_handed ++ Called 4 a1 (Did 2) ∷ []

-- and the loss: it is in doubt
abbrev pub owner_lost : List Entry
owner_lost = handed_over ++ Called 5 a1 Fine ∷ Lost e2 ∷ Decided InDoubt ∷ []

-- and the step for which `await` waits: the client alone is told
abbrev pub doubt_told : List Entry
doubt_told = owner_lost ++ Told Client InDoubt ∷ []

-- the history of the script
abbrev pub losing_whole : List Entry
losing_whole = doubt_told ++ Called 6 a1 (OutcomeIs InDoubt) ∷ []

-- the `do` did two steps
losing_done : HasDoneAt losing t1 1 2 2 (at_t1 owner_asked) (at_t1 owner_handed)
unfolding block_at observe pending local_pending all_due due_of act_entries coordinate follow may_log may_free next_ask is_over owner_of
losing_done =
    record {
      ran = (at_t1 (owner_asked ++ Sealed ∷ []), (at_t1 owner_asked, refl, LocalAct, Acts, refl, refl, refl, refl), LocalAct, Acts, refl, refl, refl, refl);
      most = lit≤ tt;
      stopped = λ k. absurd (omega (arith, k));
    }

-- the `await` waited until nothing was pending
losing_waited : HasSettled losing t1 1 (at_t1 owner_lost) (at_t1 doubt_told)
unfolding block_at observe pending local_pending all_due due_of act_entries coordinate follow may_log may_free hears
losing_waited = record { ran = (at_t1 owner_lost, refl, LocalAct, Acts, refl, refl, refl, refl); settled = refl }

-- the lines of the script ran so
losing_run : LinesRan losing (past_of losing) (at_t1 losing_whole)
unfolding block_at answer_at local_answer track observe may_own
losing_run = (
  at_t1 owner_lost,
  (
    at_t1 handed_over,
    (
      at_t1 owner_asked,
      (at_t1 owner_joined, (at_t1 (Called 1 a1 Fine ∷ Began 600000 ∷ []), ([], refl, refl), refl), refl),
      (2, at_t1 owner_handed, losing_done, refl),
    ),
    refl,
  ),
  (1, at_t1 doubt_told, losing_waited, refl),
)

-- the trace is that of a replay of the script
losing_replayed : IsReplayed losing (at_t1 losing_whole)
losing_replayed = record { by_lines = at_t1 losing_whole; lines = losing_run; turns = []; rounds = refl }

-- the script causes the history, and no object answers
pub losing_caused : Caused losing 0 1 (past_of losing_whole)
losing_caused = replayed_caused losing (at_t1 losing_whole) losing_replayed (has_object losing 0) (λ t. planned_at_t1 losing losing_whole refl t (t.value == 1) refl) t1

-- it is just
pub losing_is_just : just_in losing_whole ≡ true
unfolding justified may_tell doubt owner_doubt coordinator_doubt single_doubt
losing_is_just = refl

-- a volatile that voted beside an owner, which is lost after the handing
abbrev pub lost_beside_e1 : List Entry
lost_beside_e1 = Began 600000 ∷ Enlisted e1 One ∷ Enlisted e2 DurableSingle ∷ CommitAsked ∷ Sealed ∷ Asked e1 Prepare ∷ Voted e1 Yes ∷ Handed e2 ∷ Lost e2 ∷ []

-- the volatile may hear that it is in doubt too
pub volatile_hears_doubt : just_in (lost_beside_e1 ++ Decided InDoubt ∷ Told (Enl e1) InDoubt ∷ []) ≡ true
unfolding justified may_tell doubt owner_doubt coordinator_doubt single_doubt
volatile_hears_doubt = refl

-- a loss after the handing is no veto
pub lost_told_aborted : just_in (handed_e2 ++ Lost e2 ∷ Told Client Aborted ∷ []) ≡ false
unfolding justified may_tell evidence ready by_seal by_owner by_log vetoed
lost_told_aborted = refl

-- nor is it evidence
pub lost_told_committed : just_in (handed_e2 ++ Lost e2 ∷ Told Client Committed ∷ []) ≡ false
unfolding justified may_tell evidence ready by_seal by_owner by_log
lost_told_committed = refl

-- a loss before it is a veto
pub lost_unhanded : just_in (Began 600000 ∷ Enlisted e2 DurableSingle ∷ CommitAsked ∷ Sealed ∷ Lost e2 ∷ Decided Aborted ∷ Told Client Aborted ∷ []) ≡ true
unfolding justified may_tell evidence ready by_seal by_owner by_log vetoed
lost_unhanded = refl

-- and leaves no doubt
pub lost_unhanded_is_no_doubt : just_in (Began 600000 ∷ Enlisted e2 DurableSingle ∷ CommitAsked ∷ Sealed ∷ Lost e2 ∷ Told Client InDoubt ∷ []) ≡ false
unfolding justified may_tell doubt owner_doubt coordinator_doubt single_doubt
lost_unhanded_is_no_doubt = refl

-- an owner that answered before it was lost leaves none
pub lost_behind_answer : just_in (handed_e2 ++ OwnerAnswered e2 Committed ∷ Decided Committed ∷ Lost e2 ∷ Told Client InDoubt ∷ []) ≡ false
unfolding justified may_tell evidence ready by_seal by_owner by_log doubt owner_doubt coordinator_doubt single_doubt
lost_behind_answer = refl

-- who comes back is lost no longer, and who is lost after that is lost
back_again : is_away e2.value (past_of (Lost e2 ∷ Reenlisted e2 ∷ [])) ≡ false
back_again = refl

lost_again : is_away e2.value (past_of (Lost e2 ∷ Reenlisted e2 ∷ Lost e2 ∷ [])) ≡ true
lost_again = refl
