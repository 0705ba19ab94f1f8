-- A marshalled transaction with a durable, which its script causes step by step, which settles and can commit: so the law that what can commit commits speaks of promoted histories.
use Rattle.std.proofs.Common.{◌≡◌, ℕ, true, List, [], ◌∷◌, Some, refl}
use Rattle.dtx_values.specs.declared.call.Call.{Call}
use Rattle.dtx_values.specs.declared.call.Call.TheVariants.{Await, Begin as BeginCall, Commit as CommitCall, Durable, Marshal}
use Rattle.dtx_values.specs.declared.message.Conn.TheVariants.{Begin, Enl, Voter}
use Rattle.dtx_values.specs.declared.message.Dir.TheVariants.{Down, Up}
use Rattle.dtx_values.specs.declared.note.Note.TheVariants.{Commit, Prepare}
use Rattle.dtx_values.specs.declared.note.Reply.TheVariants.{Ack, Vote}
use Rattle.dtx_values.specs.declared.number.ActorNo.{ActorNo}
use Rattle.dtx_values.specs.declared.script.Body.TheVariants.{Await as AwaitLine, Begin as BeginLine, Commit as CommitLine, Durable as DurableLine, Marshal as MarshalLine}
use Rattle.dtx_values.specs.declared.script.Support.TheVariants.{TwoPhase}
use Rattle.dtx_values.specs.declared.words.Outcome.TheVariants.{Committed}
use Rattle.dtx_values.specs.declared.words.Timeout.TheVariants.{Default}
use Rattle.dtx_values.specs.declared.words.Vote.TheVariants.{Yes}
use Rattle.dtx_model.specs.Words.{has, past_of}
use Rattle.dtx_model.specs.Entries.{is_client_told}
use Rattle.dtx_model.specs.Grammar.{are_named_well}
use Rattle.dtx_model.specs.World.{World}
use Rattle.dtx_model.specs.Steps.{Acts, Calls, Coordinates, Delivers, Done, Replies, Step, after}
use Rattle.dtx_model.specs.Caused.{Caused, FreelyCaused, IsCallOf, MayCome, Ran, Settled}
use Rattle.dtx_model.specs.History.{CanCommit}
use Rattle.dtx_model.proofs.Cast.{a1, e1, r1, says, t1}
use Rattle.dtx_model.proofs.Computing.{model}
use Rattle.dtx_model.proofs.WorkedOutcomes.{commits_history, commits_lines}
use Rattle.outcome_law.proofs.Completes.{settled_told}

-- the world that steps make, the newest step first
abbrev pub made : List Step → World
made [] = record { calls = []; past = [] }
made (m ∷ ms) = after 1 (made ms) m

-- each may come where it comes
abbrev pub AllMay : (ℕ → ActorNo → Call → Type 0) → List Step → Type 0
AllMay G [] = Unit {0}
AllMay G (m ∷ ms) = AllMay G ms × MayCome G 1 (made ms) m

pub ran : (G : ℕ → ActorNo → Call → Type 0) (ms : List Step) → AllMay G ms → Ran G 1 ms (made ms)
ran G [] a = (refl, refl)
ran G (m ∷ ms) a = (made ms, ran G ms a.0, a.1, refl)

-- the calls of the script
call_1 : IsCallOf commits_lines 1 1 a1 (BeginCall t1 Default)
call_1 = record { line = says a1 (BeginLine t1 Default); stands = refl; by_actor = refl; name = t1; place = 0; gives = refl; at_t = refl }

call_2 : IsCallOf commits_lines 1 2 a1 (Marshal t1)
call_2 = record { line = says a1 (MarshalLine t1); stands = refl; by_actor = refl; name = t1; place = 0; gives = refl; at_t = refl }

call_3 : IsCallOf commits_lines 1 3 a1 (Await t1)
call_3 = record { line = says a1 (AwaitLine t1); stands = refl; by_actor = refl; name = t1; place = 0; gives = refl; at_t = refl }

call_4 : IsCallOf commits_lines 1 4 a1 (Durable t1 e1 r1 (TwoPhase (Some Yes)))
call_4 = record { line = says a1 (DurableLine t1 e1 r1 (TwoPhase (Some Yes))); stands = refl; by_actor = refl; name = t1; place = 0; gives = refl; at_t = refl }

call_5 : IsCallOf commits_lines 1 5 a1 (CommitCall t1)
call_5 = record { line = says a1 (CommitLine t1); stands = refl; by_actor = refl; name = t1; place = 0; gives = refl; at_t = refl }

-- promoted for the marshal call; the durable's call, and the commit; its place at the coordinator, and the seal; the yes of both; the record, and what is told
abbrev promoting : List Step
promoting = Delivers Voter Down ∷ Delivers Voter Up ∷ Delivers Begin Down ∷ Delivers Begin Up ∷ Calls 2 a1 (Marshal t1) 0 ∷ Calls 1 a1 (BeginCall t1 Default) 0 ∷ []

abbrev sealing : List Step
sealing =
    Acts ∷ Delivers (Enl e1) Down ∷ Delivers (Enl e1) Up ∷ Calls 5 a1 (CommitCall t1) 0 ∷ Calls 4 a1 (Durable t1 e1 r1 (TwoPhase (Some Yes))) 0 ∷ Calls 3 a1 (Await t1) 0 ∷ promoting

abbrev pub voting : List Step
voting =
    Delivers (Enl e1) Up ∷ Replies e1 (Vote Yes) ∷ Delivers (Enl e1) Down ∷ Delivers Voter Up ∷ Acts ∷ Delivers Voter Down ∷ Delivers Begin Up ∷ sealing

abbrev steps : List Step
steps =
    Coordinates Done ∷ Delivers (Enl e1) Up ∷ Replies e1 Ack ∷ Delivers (Enl e1) Down ∷ Delivers Voter Down ∷ Acts ∷ Delivers Begin Down ∷ Coordinates Done ∷ voting

may_promote : AllMay (IsCallOf commits_lines 1) promoting
unfolding model
may_promote = ((((((tt, (call_1, refl, tt)), (call_2, refl, tt)), refl), refl), refl), refl)

may_seal : AllMay (IsCallOf commits_lines 1) sealing
unfolding model
may_seal = ((((((may_promote, (call_3, refl, refl)), (call_4, refl, tt)), (call_5, refl, tt)), refl), refl), refl)

pub may_vote : AllMay (IsCallOf commits_lines 1) voting
unfolding model
may_vote = (((((((may_seal, refl), refl), refl), refl), refl), (Prepare, refl, refl)), refl)

may_end : AllMay (IsCallOf commits_lines 1) steps
unfolding model
may_end = ((((((((may_vote, refl), refl), refl), refl), refl), (Commit, refl, refl)), refl), refl)

commits_freely : FreelyCaused (IsCallOf commits_lines 1) 1 (past_of commits_history)
unfolding model
commits_freely = ((made steps).calls, (steps, ran (IsCallOf commits_lines 1) steps may_end))

commits_caused : Caused commits_lines 0 1 (past_of commits_history)
commits_caused = record { freely = commits_freely; planned = refl }

commits_settled : Settled commits_lines (past_of commits_history)
unfolding model
commits_settled = refl

commits_can : CanCommit commits_lines (past_of commits_history)
unfolding model
commits_can = record { asked = refl; in_time = refl; completed = refl; willing = refl; planned = refl; ended_by_none = refl; unlost = refl }

commits_named : are_named_well commits_lines ≡ true
commits_named = refl

-- so the law says of it that its client was told
commits_told : has (is_client_told Committed) (past_of commits_history) ≡ true
commits_told = settled_told commits_lines 1 (past_of commits_history) commits_named commits_caused.freely commits_settled commits_can
