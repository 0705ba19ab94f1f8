-- A marshalled transaction with one durable, which supports single phase and is willing. Its script causes it step by step, it settles, and it can commit; and the durable decided it, without a
-- vote or a record. So the law that what can commit commits speaks of such histories too.
use Rattle.std.proofs.Common.{◌≡◌, true, false, List, [], ◌∷◌, Some, refl}
use Rattle.dtx_values.specs.declared.call.Call.TheVariants.{Await, Begin as BeginCall, Commit as CommitCall, Durable, Marshal}
use Rattle.dtx_values.specs.declared.entry.Entry.{Entry}
use Rattle.dtx_values.specs.declared.message.Conn.TheVariants.{Begin, Enl, Voter}
use Rattle.dtx_values.specs.declared.message.Dir.TheVariants.{Down, Up}
use Rattle.dtx_values.specs.declared.note.Note.TheVariants.{Hand}
use Rattle.dtx_values.specs.declared.note.Reply.TheVariants.{Owner}
use Rattle.dtx_values.specs.declared.script.Body.TheVariants.{Await as AwaitLine, Begin as BeginLine, Commit as CommitLine, Durable as DurableLine, Marshal as MarshalLine}
use Rattle.dtx_values.specs.declared.script.Line.{Line}
use Rattle.dtx_values.specs.declared.script.Support.{Support}
use Rattle.dtx_values.specs.declared.script.Support.TheVariants.{SinglePhase}
use Rattle.dtx_values.specs.declared.words.Outcome.TheVariants.{Committed}
use Rattle.dtx_values.specs.declared.words.Timeout.TheVariants.{Default}
use Rattle.dtx_values.specs.declared.words.Vote.TheVariants.{Yes}
use Rattle.dtx_model.specs.Words.{has}
use Rattle.dtx_model.specs.Entries.{is_any_hand, is_client_told, is_vote}
use Rattle.dtx_model.specs.Steps.{Acts, Calls, Delivers, Replies, Step}
use Rattle.dtx_model.specs.Tied.{is_logged}
use Rattle.dtx_model.specs.Caused.{Caused, FreelyCaused, IsCallOf, Settled}
use Rattle.dtx_model.specs.History.{CanCommit}
use Rattle.dtx_model.proofs.Cast.{a1, e1, r1, says, t1}
use Rattle.dtx_model.proofs.Computing.{model}
use Rattle.outcome_law.proofs.CommitExample.{AllMay, made, ran}
use Rattle.outcome_law.proofs.Completes.{settled_told}

abbrev willing : Support
willing = SinglePhase (Some Yes) (Some Committed)

abbrev lines : List Line
lines =
    says a1 (BeginLine t1 Default) ∷ says a1 (MarshalLine t1) ∷ says a1 (AwaitLine t1) ∷ says a1 (DurableLine t1 e1 r1 willing) ∷ says a1 (CommitLine t1) ∷ []

-- the calls of the script
call_1 : IsCallOf lines 1 1 a1 (BeginCall t1 Default)
call_1 = record { line = says a1 (BeginLine t1 Default); stands = refl; by_actor = refl; name = t1; place = 0; gives = refl; at_t = refl }

call_2 : IsCallOf lines 1 2 a1 (Marshal t1)
call_2 = record { line = says a1 (MarshalLine t1); stands = refl; by_actor = refl; name = t1; place = 0; gives = refl; at_t = refl }

call_3 : IsCallOf lines 1 3 a1 (Await t1)
call_3 = record { line = says a1 (AwaitLine t1); stands = refl; by_actor = refl; name = t1; place = 0; gives = refl; at_t = refl }

call_4 : IsCallOf lines 1 4 a1 (Durable t1 e1 r1 willing)
call_4 = record { line = says a1 (DurableLine t1 e1 r1 willing); stands = refl; by_actor = refl; name = t1; place = 0; gives = refl; at_t = refl }

call_5 : IsCallOf lines 1 5 a1 (CommitCall t1)
call_5 = record { line = says a1 (CommitLine t1); stands = refl; by_actor = refl; name = t1; place = 0; gives = refl; at_t = refl }

-- promoted for the marshal call; the durable's place at the coordinator, the commit, and the seal with COMMITONE; the local yes, SINGLE, and the durable's answer; what is told. The newest step first.
abbrev promoting : List Step
promoting = Delivers Voter Down ∷ Delivers Voter Up ∷ Delivers Begin Down ∷ Delivers Begin Up ∷ Calls 2 a1 (Marshal t1) 0 ∷ Calls 1 a1 (BeginCall t1 Default) 0 ∷ []

abbrev sealing : List Step
sealing =
    Acts ∷ Delivers (Enl e1) Down ∷ Delivers (Enl e1) Up ∷ Calls 5 a1 (CommitCall t1) 0 ∷ Calls 4 a1 (Durable t1 e1 r1 willing) 0 ∷ Calls 3 a1 (Await t1) 0 ∷ promoting

abbrev answering : List Step
answering = Replies e1 (Owner Committed) ∷ Delivers (Enl e1) Down ∷ Delivers Voter Up ∷ Acts ∷ Delivers Voter Down ∷ Delivers Begin Up ∷ sealing

abbrev steps : List Step
steps = Delivers Voter Down ∷ Acts ∷ Delivers Begin Down ∷ Delivers (Enl e1) Up ∷ answering

abbrev history : List Entry
history = (made steps).past

may_promote : AllMay (IsCallOf lines 1) promoting
unfolding model
may_promote = ((((((tt, (call_1, refl, tt)), (call_2, refl, tt)), refl), refl), refl), refl)

may_seal : AllMay (IsCallOf lines 1) sealing
unfolding model
may_seal = ((((((may_promote, (call_3, refl, refl)), (call_4, refl, tt)), (call_5, refl, tt)), refl), refl), refl)

may_answer : AllMay (IsCallOf lines 1) answering
unfolding model
may_answer = ((((((may_seal, refl), refl), refl), refl), refl), (Hand, refl, refl))

may_end : AllMay (IsCallOf lines 1) steps
unfolding model
may_end = ((((may_answer, refl), refl), refl), refl)

freely : FreelyCaused (IsCallOf lines 1) 1 history
freely = ((made steps).calls, (steps, ran (IsCallOf lines 1) steps may_end))

pub caused : Caused lines 0 1 history
unfolding model
caused = record { freely = freely; planned = refl }

settled : Settled lines history
unfolding model
settled = refl

can : CanCommit lines history
unfolding model
can = record { asked = refl; in_time = refl; completed = refl; willing = refl; planned = refl; ended_by_none = refl; unlost = refl }

-- nobody voted and nothing was logged: the durable was handed the commit
pub handed : has is_any_hand history ≡ true
unfolding model
handed = refl

pub unvoted : has (is_vote 1) history ≡ false
unfolding model
unvoted = refl

pub unlogged : has is_logged history ≡ false
unfolding model
unlogged = refl

-- so the law says of it that its client was told
pub told : has (is_client_told Committed) history ≡ true
told = settled_told lines 1 history refl freely settled can
