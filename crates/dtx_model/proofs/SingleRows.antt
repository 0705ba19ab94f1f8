-- Fourteen rows of the single-phase request, as whole traces.
use Rattle.std.proofs.Common.{false, List, [], ◌∷◌, Some, None, refl, lit≤}
use Rattle.dtx_values.specs.declared.number.ActorNo.{ActorNo}
use Rattle.dtx_values.specs.declared.number.EnlNo.{EnlNo}
use Rattle.dtx_values.specs.declared.number.RmNo.{RmNo}
use Rattle.dtx_values.specs.declared.number.TxNo.{TxNo}
use Rattle.dtx_values.specs.declared.entry.Answer.TheVariants.{Fine, Wait, Id, OutcomeIs, StillOpen, Did, Finished}
use Rattle.dtx_values.specs.declared.entry.Ask.TheVariants.{Prepare as AskPrepare}
use Rattle.dtx_values.specs.declared.entry.Entry.TheVariants.{Called, Answered, Began, Enlisted, CommitAsked, Clock, TimedOut, Asked, Voted, Sealed, Handed, OwnerAnswered, LocalYes, Decided, Told, Promoting, Promoted, Sent, Got, Cut, Down as DownEntry, Lost as LostEntry, Stopped as StoppedEntry, Restarted, Reenlisted, Recovered as RecoveredEntry, LogWord}
use Rattle.dtx_values.specs.declared.entry.LogNote.TheVariants.{Opened as OpenedLog}
use Rattle.dtx_values.specs.declared.entry.Party.TheVariants.{Client, Enl as Member}
use Rattle.dtx_values.specs.declared.message.Conn.TheVariants.{Begin, Voter, Enl, Again}
use Rattle.dtx_values.specs.declared.message.Dir.TheVariants.{Up, Down}
use Rattle.dtx_values.specs.declared.message.Message.TheVariants.{BeginBegin, BeginCommitOne, BeginBegun, BeginCommitted, BeginAborted, BeginInDoubt, VoterVoter, VoterYes, VoterNo, VoterCreated, VoterAsk, VoterCommit, VoterAbort, VoterInDoubt, EnlistEnlist, EnlistOneCommitted, EnlistOneAborted, EnlistOneInDoubt, EnlistEnlisted, EnlistAbort, EnlistSingle, ReenlistReenlist, ReenlistAborted}
use Rattle.dtx_values.specs.declared.script.Body.TheVariants.{Begin as BeginLine, Volatile as VolatileLine, Durable as DurableLine, Commit as CommitLine, Marshal as MarshalLine, Await as AwaitLine, Tick as TickLine, Do as DoLine, Lose as LoseLine, Gone as GoneLine, Reenlist as ReenlistLine, Recovered as RecoveredLine, Restart as RestartLine}
use Rattle.dtx_values.specs.declared.script.EnlistOption.TheVariants.{Plain}
use Rattle.dtx_values.specs.declared.script.Line.{Line}
use Rattle.dtx_values.specs.declared.script.Support.TheVariants.{SinglePhase}
use Rattle.dtx_values.specs.declared.trace.Place.TheVariants.{Transaction as AtTx, Log as AtLog}
use Rattle.dtx_values.specs.declared.words.Cause.TheVariants.{Marshal as MarshalCause}
use Rattle.dtx_values.specs.declared.words.Class.TheVariants.{One, DurableSingle}
use Rattle.dtx_values.specs.declared.words.Outcome.TheVariants.{Committed, Aborted, InDoubt}
use Rattle.dtx_values.specs.declared.words.Timeout.TheVariants.{Default}
use Rattle.dtx_values.specs.declared.words.Vote.TheVariants.{Yes, No}
use Rattle.dtx_model.specs.Half.{info}
use Rattle.dtx_model.specs.Traces.{Placed}
use Rattle.dtx_model.proofs.Cast.{says}
use Rattle.dtx_model.proofs.Computing.{model}
use Rattle.dtx_model.proofs.Replaying.{IsWorkedTrace}

abbrev a1 : ActorNo
a1 = record { value = 1; in_range = (lit≤ tt, lit≤ tt) }

abbrev e1 : EnlNo
e1 = record { value = 1; in_range = (lit≤ tt, lit≤ tt) }

abbrev e2 : EnlNo
e2 = record { value = 2; in_range = (lit≤ tt, lit≤ tt) }

abbrev r1 : RmNo
r1 = record { value = 1; in_range = (lit≤ tt, lit≤ tt) }

abbrev t1 : TxNo
t1 = record { value = 1; in_range = (lit≤ tt, lit≤ tt) }

abbrev r_single_owner_committed_lines : List Line
r_single_owner_committed_lines = says a1 (BeginLine t1 Default) ∷ says a1 (VolatileLine t1 e1 Plain (Some Yes)) ∷ says a1 (DurableLine t1 e2 r1 (SinglePhase (Some Yes) (Some Committed))) ∷ says a1 (MarshalLine t1) ∷ says a1 (CommitLine t1) ∷ []

abbrev r_single_owner_committed_trace : List Placed
r_single_owner_committed_trace =
    (AtTx t1, Called 1 a1 Fine) ∷ (AtTx t1, Began 60000) ∷ (AtTx t1, Called 2 a1 Fine) ∷ (AtTx t1, Enlisted e1 One) ∷ (AtTx t1, Called 3 a1 Fine) ∷ (AtTx t1, Enlisted e2 DurableSingle) ∷ (AtTx t1, Called 4 a1 Wait) ∷ (AtTx t1, Promoting MarshalCause) ∷ (AtTx t1, Sent Begin Up BeginBegin) ∷ (AtTx t1, Called 5 a1 Fine) ∷ (AtTx t1, CommitAsked) ∷ (AtTx t1, Got Begin Up BeginBegin) ∷ (AtTx t1, Sent Begin Down (BeginBegun 18446744073709551617)) ∷ (AtTx t1, Got Begin Down (BeginBegun 18446744073709551617)) ∷ (AtTx t1, Sent Voter Up (VoterVoter 18446744073709551617)) ∷ (AtTx t1, Got Voter Up (VoterVoter 18446744073709551617)) ∷ (AtTx t1, Sent Voter Down VoterCreated) ∷ (AtTx t1, Got Voter Down VoterCreated) ∷ (AtTx t1, Sent (Enl e2) Up (EnlistEnlist (info 1 e2 r1))) ∷ (AtTx t1, Got (Enl e2) Up (EnlistEnlist (info 1 e2 r1))) ∷ (AtTx t1, Sent (Enl e2) Down EnlistEnlisted) ∷ (AtTx t1, Got (Enl e2) Down EnlistEnlisted) ∷ (AtTx t1, Promoted 18446744073709551617 MarshalCause) ∷ (AtTx t1, Answered 4 (Id 18446744073709551617)) ∷ (AtTx t1, Sealed) ∷ (AtTx t1, Sent Begin Up BeginCommitOne) ∷ (AtTx t1, Got Begin Up BeginCommitOne) ∷ (AtTx t1, Sent Voter Down VoterAsk) ∷ (AtTx t1, Got Voter Down VoterAsk) ∷ (AtTx t1, Asked e1 AskPrepare) ∷ (AtTx t1, Voted e1 Yes) ∷ (AtTx t1, LocalYes) ∷ (AtTx t1, Sent Voter Up VoterYes) ∷ (AtTx t1, Got Voter Up VoterYes) ∷ (AtTx t1, Sent (Enl e2) Down EnlistSingle) ∷ (AtTx t1, Got (Enl e2) Down EnlistSingle) ∷ (AtTx t1, Handed e2) ∷ (AtTx t1, OwnerAnswered e2 Committed) ∷ (AtTx t1, Sent (Enl e2) Up EnlistOneCommitted) ∷ (AtTx t1, Got (Enl e2) Up EnlistOneCommitted) ∷ (AtTx t1, Sent Begin Down BeginCommitted) ∷ (AtTx t1, Sent Voter Down VoterCommit) ∷ (AtTx t1, Got Begin Down BeginCommitted) ∷ (AtTx t1, Decided Committed) ∷ (AtTx t1, Told (Member e1) Committed) ∷ (AtTx t1, Told Client Committed) ∷ (AtTx t1, Got Voter Down VoterCommit) ∷ []

r_single_owner_committed : IsWorkedTrace r_single_owner_committed_lines ([]) r_single_owner_committed_trace
unfolding model
r_single_owner_committed = (refl, refl, refl, refl)

abbrev r_single_owner_aborted_lines : List Line
r_single_owner_aborted_lines = says a1 (BeginLine t1 Default) ∷ says a1 (VolatileLine t1 e1 Plain (Some Yes)) ∷ says a1 (DurableLine t1 e2 r1 (SinglePhase (Some Yes) (Some Aborted))) ∷ says a1 (MarshalLine t1) ∷ says a1 (CommitLine t1) ∷ []

abbrev r_single_owner_aborted_trace : List Placed
r_single_owner_aborted_trace =
    (AtTx t1, Called 1 a1 Fine) ∷ (AtTx t1, Began 60000) ∷ (AtTx t1, Called 2 a1 Fine) ∷ (AtTx t1, Enlisted e1 One) ∷ (AtTx t1, Called 3 a1 Fine) ∷ (AtTx t1, Enlisted e2 DurableSingle) ∷ (AtTx t1, Called 4 a1 Wait) ∷ (AtTx t1, Promoting MarshalCause) ∷ (AtTx t1, Sent Begin Up BeginBegin) ∷ (AtTx t1, Called 5 a1 Fine) ∷ (AtTx t1, CommitAsked) ∷ (AtTx t1, Got Begin Up BeginBegin) ∷ (AtTx t1, Sent Begin Down (BeginBegun 18446744073709551617)) ∷ (AtTx t1, Got Begin Down (BeginBegun 18446744073709551617)) ∷ (AtTx t1, Sent Voter Up (VoterVoter 18446744073709551617)) ∷ (AtTx t1, Got Voter Up (VoterVoter 18446744073709551617)) ∷ (AtTx t1, Sent Voter Down VoterCreated) ∷ (AtTx t1, Got Voter Down VoterCreated) ∷ (AtTx t1, Sent (Enl e2) Up (EnlistEnlist (info 1 e2 r1))) ∷ (AtTx t1, Got (Enl e2) Up (EnlistEnlist (info 1 e2 r1))) ∷ (AtTx t1, Sent (Enl e2) Down EnlistEnlisted) ∷ (AtTx t1, Got (Enl e2) Down EnlistEnlisted) ∷ (AtTx t1, Promoted 18446744073709551617 MarshalCause) ∷ (AtTx t1, Answered 4 (Id 18446744073709551617)) ∷ (AtTx t1, Sealed) ∷ (AtTx t1, Sent Begin Up BeginCommitOne) ∷ (AtTx t1, Got Begin Up BeginCommitOne) ∷ (AtTx t1, Sent Voter Down VoterAsk) ∷ (AtTx t1, Got Voter Down VoterAsk) ∷ (AtTx t1, Asked e1 AskPrepare) ∷ (AtTx t1, Voted e1 Yes) ∷ (AtTx t1, LocalYes) ∷ (AtTx t1, Sent Voter Up VoterYes) ∷ (AtTx t1, Got Voter Up VoterYes) ∷ (AtTx t1, Sent (Enl e2) Down EnlistSingle) ∷ (AtTx t1, Got (Enl e2) Down EnlistSingle) ∷ (AtTx t1, Handed e2) ∷ (AtTx t1, OwnerAnswered e2 Aborted) ∷ (AtTx t1, Sent (Enl e2) Up EnlistOneAborted) ∷ (AtTx t1, Got (Enl e2) Up EnlistOneAborted) ∷ (AtTx t1, Sent Begin Down BeginAborted) ∷ (AtTx t1, Sent Voter Down VoterAbort) ∷ (AtTx t1, Got Begin Down BeginAborted) ∷ (AtTx t1, Decided Aborted) ∷ (AtTx t1, Told (Member e1) Aborted) ∷ (AtTx t1, Told Client Aborted) ∷ (AtTx t1, Got Voter Down VoterAbort) ∷ []

r_single_owner_aborted : IsWorkedTrace r_single_owner_aborted_lines ([]) r_single_owner_aborted_trace
unfolding model
r_single_owner_aborted = (refl, refl, refl, refl)

abbrev r_single_owner_indoubt_lines : List Line
r_single_owner_indoubt_lines = says a1 (BeginLine t1 Default) ∷ says a1 (VolatileLine t1 e1 Plain (Some Yes)) ∷ says a1 (DurableLine t1 e2 r1 (SinglePhase (Some Yes) (Some InDoubt))) ∷ says a1 (MarshalLine t1) ∷ says a1 (CommitLine t1) ∷ []

abbrev r_single_owner_indoubt_trace : List Placed
r_single_owner_indoubt_trace =
    (AtTx t1, Called 1 a1 Fine) ∷ (AtTx t1, Began 60000) ∷ (AtTx t1, Called 2 a1 Fine) ∷ (AtTx t1, Enlisted e1 One) ∷ (AtTx t1, Called 3 a1 Fine) ∷ (AtTx t1, Enlisted e2 DurableSingle) ∷ (AtTx t1, Called 4 a1 Wait) ∷ (AtTx t1, Promoting MarshalCause) ∷ (AtTx t1, Sent Begin Up BeginBegin) ∷ (AtTx t1, Called 5 a1 Fine) ∷ (AtTx t1, CommitAsked) ∷ (AtTx t1, Got Begin Up BeginBegin) ∷ (AtTx t1, Sent Begin Down (BeginBegun 18446744073709551617)) ∷ (AtTx t1, Got Begin Down (BeginBegun 18446744073709551617)) ∷ (AtTx t1, Sent Voter Up (VoterVoter 18446744073709551617)) ∷ (AtTx t1, Got Voter Up (VoterVoter 18446744073709551617)) ∷ (AtTx t1, Sent Voter Down VoterCreated) ∷ (AtTx t1, Got Voter Down VoterCreated) ∷ (AtTx t1, Sent (Enl e2) Up (EnlistEnlist (info 1 e2 r1))) ∷ (AtTx t1, Got (Enl e2) Up (EnlistEnlist (info 1 e2 r1))) ∷ (AtTx t1, Sent (Enl e2) Down EnlistEnlisted) ∷ (AtTx t1, Got (Enl e2) Down EnlistEnlisted) ∷ (AtTx t1, Promoted 18446744073709551617 MarshalCause) ∷ (AtTx t1, Answered 4 (Id 18446744073709551617)) ∷ (AtTx t1, Sealed) ∷ (AtTx t1, Sent Begin Up BeginCommitOne) ∷ (AtTx t1, Got Begin Up BeginCommitOne) ∷ (AtTx t1, Sent Voter Down VoterAsk) ∷ (AtTx t1, Got Voter Down VoterAsk) ∷ (AtTx t1, Asked e1 AskPrepare) ∷ (AtTx t1, Voted e1 Yes) ∷ (AtTx t1, LocalYes) ∷ (AtTx t1, Sent Voter Up VoterYes) ∷ (AtTx t1, Got Voter Up VoterYes) ∷ (AtTx t1, Sent (Enl e2) Down EnlistSingle) ∷ (AtTx t1, Got (Enl e2) Down EnlistSingle) ∷ (AtTx t1, Handed e2) ∷ (AtTx t1, OwnerAnswered e2 InDoubt) ∷ (AtTx t1, Sent (Enl e2) Up EnlistOneInDoubt) ∷ (AtTx t1, Got (Enl e2) Up EnlistOneInDoubt) ∷ (AtTx t1, Sent Begin Down BeginInDoubt) ∷ (AtTx t1, Sent Voter Down VoterInDoubt) ∷ (AtTx t1, Got Begin Down BeginInDoubt) ∷ (AtTx t1, Decided InDoubt) ∷ (AtTx t1, Told (Member e1) InDoubt) ∷ (AtTx t1, Told Client InDoubt) ∷ (AtTx t1, Got Voter Down VoterInDoubt) ∷ []

r_single_owner_indoubt : IsWorkedTrace r_single_owner_indoubt_lines ([]) r_single_owner_indoubt_trace
unfolding model
r_single_owner_indoubt = (refl, refl, refl, refl)

abbrev r_single_owner_silent_lines : List Line
r_single_owner_silent_lines = says a1 (BeginLine t1 Default) ∷ says a1 (VolatileLine t1 e1 Plain (Some Yes)) ∷ says a1 (DurableLine t1 e2 r1 (SinglePhase (Some Yes) None)) ∷ says a1 (MarshalLine t1) ∷ says a1 (CommitLine t1) ∷ says a1 (AwaitLine t1) ∷ []

abbrev r_single_owner_silent_trace : List Placed
r_single_owner_silent_trace =
    (AtTx t1, Called 1 a1 Fine) ∷ (AtTx t1, Began 60000) ∷ (AtTx t1, Called 2 a1 Fine) ∷ (AtTx t1, Enlisted e1 One) ∷ (AtTx t1, Called 3 a1 Fine) ∷ (AtTx t1, Enlisted e2 DurableSingle) ∷ (AtTx t1, Called 4 a1 Wait) ∷ (AtTx t1, Promoting MarshalCause) ∷ (AtTx t1, Sent Begin Up BeginBegin) ∷ (AtTx t1, Called 5 a1 Fine) ∷ (AtTx t1, CommitAsked) ∷ (AtTx t1, Got Begin Up BeginBegin) ∷ (AtTx t1, Sent Begin Down (BeginBegun 18446744073709551617)) ∷ (AtTx t1, Got Begin Down (BeginBegun 18446744073709551617)) ∷ (AtTx t1, Sent Voter Up (VoterVoter 18446744073709551617)) ∷ (AtTx t1, Got Voter Up (VoterVoter 18446744073709551617)) ∷ (AtTx t1, Sent Voter Down VoterCreated) ∷ (AtTx t1, Got Voter Down VoterCreated) ∷ (AtTx t1, Sent (Enl e2) Up (EnlistEnlist (info 1 e2 r1))) ∷ (AtTx t1, Got (Enl e2) Up (EnlistEnlist (info 1 e2 r1))) ∷ (AtTx t1, Sent (Enl e2) Down EnlistEnlisted) ∷ (AtTx t1, Got (Enl e2) Down EnlistEnlisted) ∷ (AtTx t1, Promoted 18446744073709551617 MarshalCause) ∷ (AtTx t1, Answered 4 (Id 18446744073709551617)) ∷ (AtTx t1, Sealed) ∷ (AtTx t1, Sent Begin Up BeginCommitOne) ∷ (AtTx t1, Got Begin Up BeginCommitOne) ∷ (AtTx t1, Sent Voter Down VoterAsk) ∷ (AtTx t1, Got Voter Down VoterAsk) ∷ (AtTx t1, Asked e1 AskPrepare) ∷ (AtTx t1, Voted e1 Yes) ∷ (AtTx t1, LocalYes) ∷ (AtTx t1, Sent Voter Up VoterYes) ∷ (AtTx t1, Got Voter Up VoterYes) ∷ (AtTx t1, Sent (Enl e2) Down EnlistSingle) ∷ (AtTx t1, Got (Enl e2) Down EnlistSingle) ∷ (AtTx t1, Handed e2) ∷ (AtTx t1, Called 6 a1 StillOpen) ∷ []

r_single_owner_silent : IsWorkedTrace r_single_owner_silent_lines ([]) r_single_owner_silent_trace
unfolding model
r_single_owner_silent = (refl, refl, refl, refl)

abbrev r_owner_answers_behind_doubt_lines : List Line
r_owner_answers_behind_doubt_lines = says a1 (BeginLine t1 Default) ∷ says a1 (DurableLine t1 e2 r1 (SinglePhase (Some Yes) (Some Committed))) ∷ says a1 (MarshalLine t1) ∷ says a1 (CommitLine t1) ∷ says a1 (DoLine t1 1 12) ∷ says a1 (LoseLine t1 Begin 0 0) ∷ says a1 (LoseLine t1 Voter 0 0) ∷ says a1 (DoLine t1 2 4) ∷ says a1 (AwaitLine t1) ∷ []

abbrev r_owner_answers_behind_doubt_trace : List Placed
r_owner_answers_behind_doubt_trace =
    (AtTx t1, Called 1 a1 Fine) ∷ (AtTx t1, Began 60000) ∷ (AtTx t1, Called 2 a1 Fine) ∷ (AtTx t1, Enlisted e2 DurableSingle) ∷ (AtTx t1, Called 3 a1 Wait) ∷ (AtTx t1, Promoting MarshalCause) ∷ (AtTx t1, Sent Begin Up BeginBegin) ∷ (AtTx t1, Called 4 a1 Fine) ∷ (AtTx t1, CommitAsked) ∷ (AtTx t1, Got Begin Up BeginBegin) ∷ (AtTx t1, Sent Begin Down (BeginBegun 18446744073709551617)) ∷ (AtTx t1, Got Begin Down (BeginBegun 18446744073709551617)) ∷ (AtTx t1, Sent Voter Up (VoterVoter 18446744073709551617)) ∷ (AtTx t1, Got Voter Up (VoterVoter 18446744073709551617)) ∷ (AtTx t1, Sent Voter Down VoterCreated) ∷ (AtTx t1, Got Voter Down VoterCreated) ∷ (AtTx t1, Sent (Enl e2) Up (EnlistEnlist (info 1 e2 r1))) ∷ (AtTx t1, Got (Enl e2) Up (EnlistEnlist (info 1 e2 r1))) ∷ (AtTx t1, Sent (Enl e2) Down EnlistEnlisted) ∷ (AtTx t1, Got (Enl e2) Down EnlistEnlisted) ∷ (AtTx t1, Promoted 18446744073709551617 MarshalCause) ∷ (AtTx t1, Answered 3 (Id 18446744073709551617)) ∷ (AtTx t1, Sealed) ∷ (AtTx t1, Sent Begin Up BeginCommitOne) ∷ (AtTx t1, Got Begin Up BeginCommitOne) ∷ (AtTx t1, Sent Voter Down VoterAsk) ∷ (AtTx t1, Got Voter Down VoterAsk) ∷ (AtTx t1, LocalYes) ∷ (AtTx t1, Sent Voter Up VoterYes) ∷ (AtTx t1, Got Voter Up VoterYes) ∷ (AtTx t1, Sent (Enl e2) Down EnlistSingle) ∷ (AtTx t1, Got (Enl e2) Down EnlistSingle) ∷ (AtTx t1, Handed e2) ∷ (AtTx t1, Called 5 a1 (Did 12)) ∷ (AtTx t1, Called 6 a1 Fine) ∷ (AtTx t1, Cut Begin 0 0) ∷ (AtTx t1, Called 7 a1 Fine) ∷ (AtTx t1, Cut Voter 0 0) ∷ (AtTx t1, DownEntry Begin Up) ∷ (AtTx t1, DownEntry Begin Down) ∷ (AtTx t1, DownEntry Voter Up) ∷ (AtTx t1, DownEntry Voter Down) ∷ (AtTx t1, Decided InDoubt) ∷ (AtTx t1, Called 8 a1 (Did 4)) ∷ (AtTx t1, OwnerAnswered e2 Committed) ∷ (AtTx t1, Sent (Enl e2) Up EnlistOneCommitted) ∷ (AtTx t1, Told Client InDoubt) ∷ (AtTx t1, Got (Enl e2) Up EnlistOneCommitted) ∷ (AtTx t1, Called 9 a1 (OutcomeIs InDoubt)) ∷ []

r_owner_answers_behind_doubt : IsWorkedTrace r_owner_answers_behind_doubt_lines ([]) r_owner_answers_behind_doubt_trace
unfolding model
r_owner_answers_behind_doubt = (refl, refl, refl, refl)

abbrev r_both_lost_then_the_owner_answers_lines : List Line
r_both_lost_then_the_owner_answers_lines = says a1 (BeginLine t1 Default) ∷ says a1 (DurableLine t1 e2 r1 (SinglePhase (Some Yes) (Some Committed))) ∷ says a1 (MarshalLine t1) ∷ says a1 (CommitLine t1) ∷ says a1 (DoLine t1 1 11) ∷ says a1 (LoseLine t1 Begin 0 0) ∷ says a1 (LoseLine t1 Voter 0 0) ∷ says a1 (DoLine t1 1 4) ∷ says a1 (AwaitLine t1) ∷ says a1 (ReenlistLine e2) ∷ []

abbrev r_both_lost_then_the_owner_answers_trace : List Placed
r_both_lost_then_the_owner_answers_trace =
    (AtTx t1, Called 1 a1 Fine) ∷ (AtTx t1, Began 60000) ∷ (AtTx t1, Called 2 a1 Fine) ∷ (AtTx t1, Enlisted e2 DurableSingle) ∷ (AtTx t1, Called 3 a1 Wait) ∷ (AtTx t1, Promoting MarshalCause) ∷ (AtTx t1, Sent Begin Up BeginBegin) ∷ (AtTx t1, Called 4 a1 Fine) ∷ (AtTx t1, CommitAsked) ∷ (AtTx t1, Got Begin Up BeginBegin) ∷ (AtTx t1, Sent Begin Down (BeginBegun 18446744073709551617)) ∷ (AtTx t1, Got Begin Down (BeginBegun 18446744073709551617)) ∷ (AtTx t1, Sent Voter Up (VoterVoter 18446744073709551617)) ∷ (AtTx t1, Got Voter Up (VoterVoter 18446744073709551617)) ∷ (AtTx t1, Sent Voter Down VoterCreated) ∷ (AtTx t1, Got Voter Down VoterCreated) ∷ (AtTx t1, Sent (Enl e2) Up (EnlistEnlist (info 1 e2 r1))) ∷ (AtTx t1, Got (Enl e2) Up (EnlistEnlist (info 1 e2 r1))) ∷ (AtTx t1, Sent (Enl e2) Down EnlistEnlisted) ∷ (AtTx t1, Got (Enl e2) Down EnlistEnlisted) ∷ (AtTx t1, Promoted 18446744073709551617 MarshalCause) ∷ (AtTx t1, Answered 3 (Id 18446744073709551617)) ∷ (AtTx t1, Sealed) ∷ (AtTx t1, Sent Begin Up BeginCommitOne) ∷ (AtTx t1, Got Begin Up BeginCommitOne) ∷ (AtTx t1, Sent Voter Down VoterAsk) ∷ (AtTx t1, Got Voter Down VoterAsk) ∷ (AtTx t1, LocalYes) ∷ (AtTx t1, Sent Voter Up VoterYes) ∷ (AtTx t1, Got Voter Up VoterYes) ∷ (AtTx t1, Sent (Enl e2) Down EnlistSingle) ∷ (AtTx t1, Called 5 a1 (Did 11)) ∷ (AtTx t1, Called 6 a1 Fine) ∷ (AtTx t1, Cut Begin 0 0) ∷ (AtTx t1, Called 7 a1 Fine) ∷ (AtTx t1, Cut Voter 0 0) ∷ (AtTx t1, DownEntry Begin Up) ∷ (AtTx t1, DownEntry Begin Down) ∷ (AtTx t1, DownEntry Voter Up) ∷ (AtTx t1, DownEntry Voter Down) ∷ (AtTx t1, Decided InDoubt) ∷ (AtTx t1, Called 8 a1 (Did 4)) ∷ (AtTx t1, Told Client InDoubt) ∷ (AtTx t1, Got (Enl e2) Down EnlistSingle) ∷ (AtTx t1, Handed e2) ∷ (AtTx t1, OwnerAnswered e2 Committed) ∷ (AtTx t1, Sent (Enl e2) Up EnlistOneCommitted) ∷ (AtTx t1, Got (Enl e2) Up EnlistOneCommitted) ∷ (AtTx t1, Called 9 a1 (OutcomeIs InDoubt)) ∷ (AtTx t1, Called 10 a1 Finished) ∷ []

r_both_lost_then_the_owner_answers : IsWorkedTrace r_both_lost_then_the_owner_answers_lines ([]) r_both_lost_then_the_owner_answers_trace
unfolding model
r_both_lost_then_the_owner_answers = (refl, refl, refl, refl)

abbrev r_reenlist_while_the_coordinator_doubts_lines : List Line
r_reenlist_while_the_coordinator_doubts_lines = says a1 (BeginLine t1 Default) ∷ says a1 (DurableLine t1 e2 r1 (SinglePhase (Some Yes) (Some InDoubt))) ∷ says a1 (MarshalLine t1) ∷ says a1 (CommitLine t1) ∷ says a1 (DoLine t1 1 11) ∷ says a1 (LoseLine t1 (Enl e2) 9 0) ∷ says a1 (AwaitLine t1) ∷ says a1 (ReenlistLine e2) ∷ says a1 (AwaitLine t1) ∷ says a1 (RestartLine) ∷ says a1 (AwaitLine t1) ∷ says a1 (ReenlistLine e2) ∷ says a1 (AwaitLine t1) ∷ []

abbrev r_reenlist_while_the_coordinator_doubts_trace : List Placed
r_reenlist_while_the_coordinator_doubts_trace =
    (AtTx t1, Called 1 a1 Fine) ∷ (AtTx t1, Began 60000) ∷ (AtTx t1, Called 2 a1 Fine) ∷ (AtTx t1, Enlisted e2 DurableSingle) ∷ (AtTx t1, Called 3 a1 Wait) ∷ (AtTx t1, Promoting MarshalCause) ∷ (AtTx t1, Sent Begin Up BeginBegin) ∷ (AtTx t1, Called 4 a1 Fine) ∷ (AtTx t1, CommitAsked) ∷ (AtTx t1, Got Begin Up BeginBegin) ∷ (AtTx t1, Sent Begin Down (BeginBegun 18446744073709551617)) ∷ (AtTx t1, Got Begin Down (BeginBegun 18446744073709551617)) ∷ (AtTx t1, Sent Voter Up (VoterVoter 18446744073709551617)) ∷ (AtTx t1, Got Voter Up (VoterVoter 18446744073709551617)) ∷ (AtTx t1, Sent Voter Down VoterCreated) ∷ (AtTx t1, Got Voter Down VoterCreated) ∷ (AtTx t1, Sent (Enl e2) Up (EnlistEnlist (info 1 e2 r1))) ∷ (AtTx t1, Got (Enl e2) Up (EnlistEnlist (info 1 e2 r1))) ∷ (AtTx t1, Sent (Enl e2) Down EnlistEnlisted) ∷ (AtTx t1, Got (Enl e2) Down EnlistEnlisted) ∷ (AtTx t1, Promoted 18446744073709551617 MarshalCause) ∷ (AtTx t1, Answered 3 (Id 18446744073709551617)) ∷ (AtTx t1, Sealed) ∷ (AtTx t1, Sent Begin Up BeginCommitOne) ∷ (AtTx t1, Got Begin Up BeginCommitOne) ∷ (AtTx t1, Sent Voter Down VoterAsk) ∷ (AtTx t1, Got Voter Down VoterAsk) ∷ (AtTx t1, LocalYes) ∷ (AtTx t1, Sent Voter Up VoterYes) ∷ (AtTx t1, Got Voter Up VoterYes) ∷ (AtTx t1, Sent (Enl e2) Down EnlistSingle) ∷ (AtTx t1, Called 5 a1 (Did 11)) ∷ (AtTx t1, Called 6 a1 Fine) ∷ (AtTx t1, Cut (Enl e2) 0 0) ∷ (AtTx t1, DownEntry (Enl e2) Up) ∷ (AtTx t1, Sent Begin Down BeginInDoubt) ∷ (AtTx t1, Sent Voter Down VoterInDoubt) ∷ (AtTx t1, Got Begin Down BeginInDoubt) ∷ (AtTx t1, Decided InDoubt) ∷ (AtTx t1, Told Client InDoubt) ∷ (AtTx t1, Got Voter Down VoterInDoubt) ∷ (AtTx t1, DownEntry (Enl e2) Down) ∷ (AtTx t1, Called 7 a1 (OutcomeIs InDoubt)) ∷ (AtTx t1, Called 8 a1 Fine) ∷ (AtTx t1, Reenlisted e2) ∷ (AtTx t1, Sent (Again e2) Up (ReenlistReenlist (info 1 e2 r1))) ∷ (AtTx t1, Got (Again e2) Up (ReenlistReenlist (info 1 e2 r1))) ∷ (AtTx t1, Called 9 a1 (OutcomeIs InDoubt)) ∷ (AtLog, Called 10 a1 Fine) ∷ (AtLog, StoppedEntry) ∷ (AtTx t1, StoppedEntry) ∷ (AtLog, LogWord (OpenedLog 0)) ∷ (AtTx t1, Restarted false) ∷ (AtTx t1, DownEntry Begin Down) ∷ (AtTx t1, DownEntry Voter Down) ∷ (AtTx t1, DownEntry (Again e2) Down) ∷ (AtTx t1, Called 11 a1 (OutcomeIs InDoubt)) ∷ (AtTx t1, Called 12 a1 Fine) ∷ (AtTx t1, Reenlisted e2) ∷ (AtTx t1, Sent (Again e2) Up (ReenlistReenlist (info 1 e2 r1))) ∷ (AtTx t1, Got (Again e2) Up (ReenlistReenlist (info 1 e2 r1))) ∷ (AtTx t1, Sent (Again e2) Down ReenlistAborted) ∷ (AtTx t1, Got (Again e2) Down ReenlistAborted) ∷ (AtTx t1, Told (Member e2) Aborted) ∷ (AtTx t1, Called 13 a1 (OutcomeIs InDoubt)) ∷ []

r_reenlist_while_the_coordinator_doubts : IsWorkedTrace r_reenlist_while_the_coordinator_doubts_lines (((λ n. false), 0) ∷ []) r_reenlist_while_the_coordinator_doubts_trace
unfolding model
r_reenlist_while_the_coordinator_doubts = (refl, refl, refl, refl)

abbrev r_enlistment_lost_at_12_lines : List Line
r_enlistment_lost_at_12_lines = says a1 (BeginLine t1 Default) ∷ says a1 (DurableLine t1 e2 r1 (SinglePhase (Some Yes) (Some Committed))) ∷ says a1 (MarshalLine t1) ∷ says a1 (CommitLine t1) ∷ says a1 (DoLine t1 1 12) ∷ says a1 (LoseLine t1 (Enl e2) 0 0) ∷ says a1 (AwaitLine t1) ∷ says a1 (ReenlistLine e2) ∷ says a1 (RecoveredLine t1 r1) ∷ []

abbrev r_enlistment_lost_at_12_trace : List Placed
r_enlistment_lost_at_12_trace =
    (AtTx t1, Called 1 a1 Fine) ∷ (AtTx t1, Began 60000) ∷ (AtTx t1, Called 2 a1 Fine) ∷ (AtTx t1, Enlisted e2 DurableSingle) ∷ (AtTx t1, Called 3 a1 Wait) ∷ (AtTx t1, Promoting MarshalCause) ∷ (AtTx t1, Sent Begin Up BeginBegin) ∷ (AtTx t1, Called 4 a1 Fine) ∷ (AtTx t1, CommitAsked) ∷ (AtTx t1, Got Begin Up BeginBegin) ∷ (AtTx t1, Sent Begin Down (BeginBegun 18446744073709551617)) ∷ (AtTx t1, Got Begin Down (BeginBegun 18446744073709551617)) ∷ (AtTx t1, Sent Voter Up (VoterVoter 18446744073709551617)) ∷ (AtTx t1, Got Voter Up (VoterVoter 18446744073709551617)) ∷ (AtTx t1, Sent Voter Down VoterCreated) ∷ (AtTx t1, Got Voter Down VoterCreated) ∷ (AtTx t1, Sent (Enl e2) Up (EnlistEnlist (info 1 e2 r1))) ∷ (AtTx t1, Got (Enl e2) Up (EnlistEnlist (info 1 e2 r1))) ∷ (AtTx t1, Sent (Enl e2) Down EnlistEnlisted) ∷ (AtTx t1, Got (Enl e2) Down EnlistEnlisted) ∷ (AtTx t1, Promoted 18446744073709551617 MarshalCause) ∷ (AtTx t1, Answered 3 (Id 18446744073709551617)) ∷ (AtTx t1, Sealed) ∷ (AtTx t1, Sent Begin Up BeginCommitOne) ∷ (AtTx t1, Got Begin Up BeginCommitOne) ∷ (AtTx t1, Sent Voter Down VoterAsk) ∷ (AtTx t1, Got Voter Down VoterAsk) ∷ (AtTx t1, LocalYes) ∷ (AtTx t1, Sent Voter Up VoterYes) ∷ (AtTx t1, Got Voter Up VoterYes) ∷ (AtTx t1, Sent (Enl e2) Down EnlistSingle) ∷ (AtTx t1, Got (Enl e2) Down EnlistSingle) ∷ (AtTx t1, Handed e2) ∷ (AtTx t1, Called 5 a1 (Did 12)) ∷ (AtTx t1, Called 6 a1 Fine) ∷ (AtTx t1, Cut (Enl e2) 0 0) ∷ (AtTx t1, OwnerAnswered e2 Committed) ∷ (AtTx t1, Sent (Enl e2) Up EnlistOneCommitted) ∷ (AtTx t1, DownEntry (Enl e2) Up) ∷ (AtTx t1, Sent Begin Down BeginInDoubt) ∷ (AtTx t1, Sent Voter Down VoterInDoubt) ∷ (AtTx t1, Got Begin Down BeginInDoubt) ∷ (AtTx t1, Decided InDoubt) ∷ (AtTx t1, Told Client InDoubt) ∷ (AtTx t1, Got Voter Down VoterInDoubt) ∷ (AtTx t1, DownEntry (Enl e2) Down) ∷ (AtTx t1, Called 7 a1 (OutcomeIs InDoubt)) ∷ (AtTx t1, Called 8 a1 Finished) ∷ (AtTx t1, Called 9 a1 Fine) ∷ (AtTx t1, RecoveredEntry r1) ∷ []

r_enlistment_lost_at_12 : IsWorkedTrace r_enlistment_lost_at_12_lines ([]) r_enlistment_lost_at_12_trace
unfolding model
r_enlistment_lost_at_12 = (refl, refl, refl, refl)

abbrev r_resource_gone_at_13_lines : List Line
r_resource_gone_at_13_lines = says a1 (BeginLine t1 Default) ∷ says a1 (DurableLine t1 e2 r1 (SinglePhase (Some Yes) None)) ∷ says a1 (MarshalLine t1) ∷ says a1 (CommitLine t1) ∷ says a1 (DoLine t1 1 13) ∷ says a1 (GoneLine e2) ∷ says a1 (AwaitLine t1) ∷ says a1 (ReenlistLine e2) ∷ says a1 (RecoveredLine t1 r1) ∷ []

abbrev r_resource_gone_at_13_trace : List Placed
r_resource_gone_at_13_trace =
    (AtTx t1, Called 1 a1 Fine) ∷ (AtTx t1, Began 60000) ∷ (AtTx t1, Called 2 a1 Fine) ∷ (AtTx t1, Enlisted e2 DurableSingle) ∷ (AtTx t1, Called 3 a1 Wait) ∷ (AtTx t1, Promoting MarshalCause) ∷ (AtTx t1, Sent Begin Up BeginBegin) ∷ (AtTx t1, Called 4 a1 Fine) ∷ (AtTx t1, CommitAsked) ∷ (AtTx t1, Got Begin Up BeginBegin) ∷ (AtTx t1, Sent Begin Down (BeginBegun 18446744073709551617)) ∷ (AtTx t1, Got Begin Down (BeginBegun 18446744073709551617)) ∷ (AtTx t1, Sent Voter Up (VoterVoter 18446744073709551617)) ∷ (AtTx t1, Got Voter Up (VoterVoter 18446744073709551617)) ∷ (AtTx t1, Sent Voter Down VoterCreated) ∷ (AtTx t1, Got Voter Down VoterCreated) ∷ (AtTx t1, Sent (Enl e2) Up (EnlistEnlist (info 1 e2 r1))) ∷ (AtTx t1, Got (Enl e2) Up (EnlistEnlist (info 1 e2 r1))) ∷ (AtTx t1, Sent (Enl e2) Down EnlistEnlisted) ∷ (AtTx t1, Got (Enl e2) Down EnlistEnlisted) ∷ (AtTx t1, Promoted 18446744073709551617 MarshalCause) ∷ (AtTx t1, Answered 3 (Id 18446744073709551617)) ∷ (AtTx t1, Sealed) ∷ (AtTx t1, Sent Begin Up BeginCommitOne) ∷ (AtTx t1, Got Begin Up BeginCommitOne) ∷ (AtTx t1, Sent Voter Down VoterAsk) ∷ (AtTx t1, Got Voter Down VoterAsk) ∷ (AtTx t1, LocalYes) ∷ (AtTx t1, Sent Voter Up VoterYes) ∷ (AtTx t1, Got Voter Up VoterYes) ∷ (AtTx t1, Sent (Enl e2) Down EnlistSingle) ∷ (AtTx t1, Got (Enl e2) Down EnlistSingle) ∷ (AtTx t1, Handed e2) ∷ (AtTx t1, Called 5 a1 (Did 12)) ∷ (AtTx t1, Called 6 a1 Fine) ∷ (AtTx t1, LostEntry e2) ∷ (AtTx t1, Cut (Enl e2) 0 0) ∷ (AtTx t1, DownEntry (Enl e2) Up) ∷ (AtTx t1, Sent Begin Down BeginInDoubt) ∷ (AtTx t1, Sent Voter Down VoterInDoubt) ∷ (AtTx t1, Got Begin Down BeginInDoubt) ∷ (AtTx t1, Decided InDoubt) ∷ (AtTx t1, Told Client InDoubt) ∷ (AtTx t1, Got Voter Down VoterInDoubt) ∷ (AtTx t1, DownEntry (Enl e2) Down) ∷ (AtTx t1, Called 7 a1 (OutcomeIs InDoubt)) ∷ (AtTx t1, Called 8 a1 Finished) ∷ (AtTx t1, Called 9 a1 Fine) ∷ (AtTx t1, RecoveredEntry r1) ∷ []

r_resource_gone_at_13 : IsWorkedTrace r_resource_gone_at_13_lines ([]) r_resource_gone_at_13_trace
unfolding model
r_resource_gone_at_13 = (refl, refl, refl, refl)

abbrev r_stopped_at_10_lines : List Line
r_stopped_at_10_lines = says a1 (BeginLine t1 Default) ∷ says a1 (DurableLine t1 e2 r1 (SinglePhase (Some Yes) (Some Committed))) ∷ says a1 (MarshalLine t1) ∷ says a1 (CommitLine t1) ∷ says a1 (DoLine t1 1 10) ∷ says a1 (RestartLine) ∷ says a1 (AwaitLine t1) ∷ says a1 (ReenlistLine e2) ∷ says a1 (AwaitLine t1) ∷ []

abbrev r_stopped_at_10_trace : List Placed
r_stopped_at_10_trace =
    (AtTx t1, Called 1 a1 Fine) ∷ (AtTx t1, Began 60000) ∷ (AtTx t1, Called 2 a1 Fine) ∷ (AtTx t1, Enlisted e2 DurableSingle) ∷ (AtTx t1, Called 3 a1 Wait) ∷ (AtTx t1, Promoting MarshalCause) ∷ (AtTx t1, Sent Begin Up BeginBegin) ∷ (AtTx t1, Called 4 a1 Fine) ∷ (AtTx t1, CommitAsked) ∷ (AtTx t1, Got Begin Up BeginBegin) ∷ (AtTx t1, Sent Begin Down (BeginBegun 18446744073709551617)) ∷ (AtTx t1, Got Begin Down (BeginBegun 18446744073709551617)) ∷ (AtTx t1, Sent Voter Up (VoterVoter 18446744073709551617)) ∷ (AtTx t1, Got Voter Up (VoterVoter 18446744073709551617)) ∷ (AtTx t1, Sent Voter Down VoterCreated) ∷ (AtTx t1, Got Voter Down VoterCreated) ∷ (AtTx t1, Sent (Enl e2) Up (EnlistEnlist (info 1 e2 r1))) ∷ (AtTx t1, Got (Enl e2) Up (EnlistEnlist (info 1 e2 r1))) ∷ (AtTx t1, Sent (Enl e2) Down EnlistEnlisted) ∷ (AtTx t1, Got (Enl e2) Down EnlistEnlisted) ∷ (AtTx t1, Promoted 18446744073709551617 MarshalCause) ∷ (AtTx t1, Answered 3 (Id 18446744073709551617)) ∷ (AtTx t1, Sealed) ∷ (AtTx t1, Sent Begin Up BeginCommitOne) ∷ (AtTx t1, Got Begin Up BeginCommitOne) ∷ (AtTx t1, Sent Voter Down VoterAsk) ∷ (AtTx t1, Got Voter Down VoterAsk) ∷ (AtTx t1, LocalYes) ∷ (AtTx t1, Sent Voter Up VoterYes) ∷ (AtTx t1, Called 5 a1 (Did 10)) ∷ (AtLog, Called 6 a1 Fine) ∷ (AtLog, StoppedEntry) ∷ (AtTx t1, StoppedEntry) ∷ (AtLog, LogWord (OpenedLog 0)) ∷ (AtTx t1, Restarted false) ∷ (AtTx t1, DownEntry Begin Down) ∷ (AtTx t1, DownEntry Voter Down) ∷ (AtTx t1, Decided InDoubt) ∷ (AtTx t1, Told Client InDoubt) ∷ (AtTx t1, DownEntry (Enl e2) Down) ∷ (AtTx t1, Called 7 a1 (OutcomeIs InDoubt)) ∷ (AtTx t1, Called 8 a1 Fine) ∷ (AtTx t1, Reenlisted e2) ∷ (AtTx t1, Sent (Again e2) Up (ReenlistReenlist (info 1 e2 r1))) ∷ (AtTx t1, Got (Again e2) Up (ReenlistReenlist (info 1 e2 r1))) ∷ (AtTx t1, Sent (Again e2) Down ReenlistAborted) ∷ (AtTx t1, Got (Again e2) Down ReenlistAborted) ∷ (AtTx t1, Told (Member e2) Aborted) ∷ (AtTx t1, Called 9 a1 (OutcomeIs InDoubt)) ∷ []

r_stopped_at_10 : IsWorkedTrace r_stopped_at_10_lines (((λ n. false), 0) ∷ []) r_stopped_at_10_trace
unfolding model
r_stopped_at_10 = (refl, refl, refl, refl)

abbrev r_stop_does_not_lose_single_lines : List Line
r_stop_does_not_lose_single_lines = says a1 (BeginLine t1 Default) ∷ says a1 (DurableLine t1 e2 r1 (SinglePhase (Some Yes) (Some Committed))) ∷ says a1 (MarshalLine t1) ∷ says a1 (CommitLine t1) ∷ says a1 (DoLine t1 1 11) ∷ says a1 (RestartLine) ∷ says a1 (DoLine t1 3 1) ∷ says a1 (AwaitLine t1) ∷ says a1 (ReenlistLine e2) ∷ []

abbrev r_stop_does_not_lose_single_trace : List Placed
r_stop_does_not_lose_single_trace =
    (AtTx t1, Called 1 a1 Fine) ∷ (AtTx t1, Began 60000) ∷ (AtTx t1, Called 2 a1 Fine) ∷ (AtTx t1, Enlisted e2 DurableSingle) ∷ (AtTx t1, Called 3 a1 Wait) ∷ (AtTx t1, Promoting MarshalCause) ∷ (AtTx t1, Sent Begin Up BeginBegin) ∷ (AtTx t1, Called 4 a1 Fine) ∷ (AtTx t1, CommitAsked) ∷ (AtTx t1, Got Begin Up BeginBegin) ∷ (AtTx t1, Sent Begin Down (BeginBegun 18446744073709551617)) ∷ (AtTx t1, Got Begin Down (BeginBegun 18446744073709551617)) ∷ (AtTx t1, Sent Voter Up (VoterVoter 18446744073709551617)) ∷ (AtTx t1, Got Voter Up (VoterVoter 18446744073709551617)) ∷ (AtTx t1, Sent Voter Down VoterCreated) ∷ (AtTx t1, Got Voter Down VoterCreated) ∷ (AtTx t1, Sent (Enl e2) Up (EnlistEnlist (info 1 e2 r1))) ∷ (AtTx t1, Got (Enl e2) Up (EnlistEnlist (info 1 e2 r1))) ∷ (AtTx t1, Sent (Enl e2) Down EnlistEnlisted) ∷ (AtTx t1, Got (Enl e2) Down EnlistEnlisted) ∷ (AtTx t1, Promoted 18446744073709551617 MarshalCause) ∷ (AtTx t1, Answered 3 (Id 18446744073709551617)) ∷ (AtTx t1, Sealed) ∷ (AtTx t1, Sent Begin Up BeginCommitOne) ∷ (AtTx t1, Got Begin Up BeginCommitOne) ∷ (AtTx t1, Sent Voter Down VoterAsk) ∷ (AtTx t1, Got Voter Down VoterAsk) ∷ (AtTx t1, LocalYes) ∷ (AtTx t1, Sent Voter Up VoterYes) ∷ (AtTx t1, Got Voter Up VoterYes) ∷ (AtTx t1, Sent (Enl e2) Down EnlistSingle) ∷ (AtTx t1, Called 5 a1 (Did 11)) ∷ (AtLog, Called 6 a1 Fine) ∷ (AtLog, StoppedEntry) ∷ (AtTx t1, StoppedEntry) ∷ (AtLog, LogWord (OpenedLog 0)) ∷ (AtTx t1, Restarted false) ∷ (AtTx t1, Got (Enl e2) Down EnlistSingle) ∷ (AtTx t1, Handed e2) ∷ (AtTx t1, Called 7 a1 (Did 1)) ∷ (AtTx t1, OwnerAnswered e2 Committed) ∷ (AtTx t1, Sent (Enl e2) Up EnlistOneCommitted) ∷ (AtTx t1, DownEntry Begin Down) ∷ (AtTx t1, DownEntry Voter Down) ∷ (AtTx t1, Decided InDoubt) ∷ (AtTx t1, Told Client InDoubt) ∷ (AtTx t1, DownEntry (Enl e2) Down) ∷ (AtTx t1, Called 8 a1 (OutcomeIs InDoubt)) ∷ (AtTx t1, Called 9 a1 Finished) ∷ []

r_stop_does_not_lose_single : IsWorkedTrace r_stop_does_not_lose_single_lines (((λ n. false), 0) ∷ []) r_stop_does_not_lose_single_trace
unfolding model
r_stop_does_not_lose_single = (refl, refl, refl, refl)

abbrev r_gone_behind_yes_and_then_single_lines : List Line
r_gone_behind_yes_and_then_single_lines = says a1 (BeginLine t1 Default) ∷ says a1 (DurableLine t1 e2 r1 (SinglePhase (Some Yes) (Some Committed))) ∷ says a1 (MarshalLine t1) ∷ says a1 (CommitLine t1) ∷ says a1 (DoLine t1 1 11) ∷ says a1 (LoseLine t1 (Enl e2) 9 9) ∷ says a1 (GoneLine e2) ∷ says a1 (AwaitLine t1) ∷ says a1 (ReenlistLine e2) ∷ []

abbrev r_gone_behind_yes_and_then_single_trace : List Placed
r_gone_behind_yes_and_then_single_trace =
    (AtTx t1, Called 1 a1 Fine) ∷ (AtTx t1, Began 60000) ∷ (AtTx t1, Called 2 a1 Fine) ∷ (AtTx t1, Enlisted e2 DurableSingle) ∷ (AtTx t1, Called 3 a1 Wait) ∷ (AtTx t1, Promoting MarshalCause) ∷ (AtTx t1, Sent Begin Up BeginBegin) ∷ (AtTx t1, Called 4 a1 Fine) ∷ (AtTx t1, CommitAsked) ∷ (AtTx t1, Got Begin Up BeginBegin) ∷ (AtTx t1, Sent Begin Down (BeginBegun 18446744073709551617)) ∷ (AtTx t1, Got Begin Down (BeginBegun 18446744073709551617)) ∷ (AtTx t1, Sent Voter Up (VoterVoter 18446744073709551617)) ∷ (AtTx t1, Got Voter Up (VoterVoter 18446744073709551617)) ∷ (AtTx t1, Sent Voter Down VoterCreated) ∷ (AtTx t1, Got Voter Down VoterCreated) ∷ (AtTx t1, Sent (Enl e2) Up (EnlistEnlist (info 1 e2 r1))) ∷ (AtTx t1, Got (Enl e2) Up (EnlistEnlist (info 1 e2 r1))) ∷ (AtTx t1, Sent (Enl e2) Down EnlistEnlisted) ∷ (AtTx t1, Got (Enl e2) Down EnlistEnlisted) ∷ (AtTx t1, Promoted 18446744073709551617 MarshalCause) ∷ (AtTx t1, Answered 3 (Id 18446744073709551617)) ∷ (AtTx t1, Sealed) ∷ (AtTx t1, Sent Begin Up BeginCommitOne) ∷ (AtTx t1, Got Begin Up BeginCommitOne) ∷ (AtTx t1, Sent Voter Down VoterAsk) ∷ (AtTx t1, Got Voter Down VoterAsk) ∷ (AtTx t1, LocalYes) ∷ (AtTx t1, Sent Voter Up VoterYes) ∷ (AtTx t1, Got Voter Up VoterYes) ∷ (AtTx t1, Sent (Enl e2) Down EnlistSingle) ∷ (AtTx t1, Called 5 a1 (Did 11)) ∷ (AtTx t1, Called 6 a1 Fine) ∷ (AtTx t1, Cut (Enl e2) 0 1) ∷ (AtTx t1, Called 7 a1 Fine) ∷ (AtTx t1, LostEntry e2) ∷ (AtTx t1, Decided Aborted) ∷ (AtTx t1, Told Client Aborted) ∷ (AtTx t1, DownEntry (Enl e2) Up) ∷ (AtTx t1, Sent Begin Down BeginInDoubt) ∷ (AtTx t1, Sent Voter Down VoterInDoubt) ∷ (AtTx t1, Got Begin Down BeginInDoubt) ∷ (AtTx t1, Got Voter Down VoterInDoubt) ∷ (AtTx t1, Got (Enl e2) Down EnlistSingle) ∷ (AtTx t1, DownEntry (Enl e2) Down) ∷ (AtTx t1, Called 8 a1 (OutcomeIs Aborted)) ∷ (AtTx t1, Called 9 a1 Fine) ∷ (AtTx t1, Reenlisted e2) ∷ (AtTx t1, Sent (Again e2) Up (ReenlistReenlist (info 1 e2 r1))) ∷ (AtTx t1, Got (Again e2) Up (ReenlistReenlist (info 1 e2 r1))) ∷ []

r_gone_behind_yes_and_then_single : IsWorkedTrace r_gone_behind_yes_and_then_single_lines ([]) r_gone_behind_yes_and_then_single_trace
unfolding model
r_gone_behind_yes_and_then_single = (refl, refl, refl, refl)

abbrev r_volatile_says_no_lines : List Line
r_volatile_says_no_lines = says a1 (BeginLine t1 Default) ∷ says a1 (VolatileLine t1 e1 Plain (Some No)) ∷ says a1 (DurableLine t1 e2 r1 (SinglePhase (Some Yes) (Some Committed))) ∷ says a1 (MarshalLine t1) ∷ says a1 (CommitLine t1) ∷ []

abbrev r_volatile_says_no_trace : List Placed
r_volatile_says_no_trace =
    (AtTx t1, Called 1 a1 Fine) ∷ (AtTx t1, Began 60000) ∷ (AtTx t1, Called 2 a1 Fine) ∷ (AtTx t1, Enlisted e1 One) ∷ (AtTx t1, Called 3 a1 Fine) ∷ (AtTx t1, Enlisted e2 DurableSingle) ∷ (AtTx t1, Called 4 a1 Wait) ∷ (AtTx t1, Promoting MarshalCause) ∷ (AtTx t1, Sent Begin Up BeginBegin) ∷ (AtTx t1, Called 5 a1 Fine) ∷ (AtTx t1, CommitAsked) ∷ (AtTx t1, Got Begin Up BeginBegin) ∷ (AtTx t1, Sent Begin Down (BeginBegun 18446744073709551617)) ∷ (AtTx t1, Got Begin Down (BeginBegun 18446744073709551617)) ∷ (AtTx t1, Sent Voter Up (VoterVoter 18446744073709551617)) ∷ (AtTx t1, Got Voter Up (VoterVoter 18446744073709551617)) ∷ (AtTx t1, Sent Voter Down VoterCreated) ∷ (AtTx t1, Got Voter Down VoterCreated) ∷ (AtTx t1, Sent (Enl e2) Up (EnlistEnlist (info 1 e2 r1))) ∷ (AtTx t1, Got (Enl e2) Up (EnlistEnlist (info 1 e2 r1))) ∷ (AtTx t1, Sent (Enl e2) Down EnlistEnlisted) ∷ (AtTx t1, Got (Enl e2) Down EnlistEnlisted) ∷ (AtTx t1, Promoted 18446744073709551617 MarshalCause) ∷ (AtTx t1, Answered 4 (Id 18446744073709551617)) ∷ (AtTx t1, Sealed) ∷ (AtTx t1, Sent Begin Up BeginCommitOne) ∷ (AtTx t1, Got Begin Up BeginCommitOne) ∷ (AtTx t1, Sent Voter Down VoterAsk) ∷ (AtTx t1, Got Voter Down VoterAsk) ∷ (AtTx t1, Asked e1 AskPrepare) ∷ (AtTx t1, Voted e1 No) ∷ (AtTx t1, Decided Aborted) ∷ (AtTx t1, Sent Voter Up VoterNo) ∷ (AtTx t1, Told Client Aborted) ∷ (AtTx t1, Got Voter Up VoterNo) ∷ (AtTx t1, Sent Begin Down BeginAborted) ∷ (AtTx t1, Sent (Enl e2) Down EnlistAbort) ∷ (AtTx t1, Got Begin Down BeginAborted) ∷ (AtTx t1, Got (Enl e2) Down EnlistAbort) ∷ (AtTx t1, Told (Member e2) Aborted) ∷ []

r_volatile_says_no : IsWorkedTrace r_volatile_says_no_lines ([]) r_volatile_says_no_trace
unfolding model
r_volatile_says_no = (refl, refl, refl, refl)

abbrev r_timeout_behind_the_seal_lines : List Line
r_timeout_behind_the_seal_lines = says a1 (BeginLine t1 Default) ∷ says a1 (VolatileLine t1 e1 Plain (Some Yes)) ∷ says a1 (DurableLine t1 e2 r1 (SinglePhase (Some Yes) (Some Committed))) ∷ says a1 (MarshalLine t1) ∷ says a1 (CommitLine t1) ∷ says a1 (DoLine t1 1 10) ∷ says a1 (TickLine t1 60000) ∷ says a1 (AwaitLine t1) ∷ []

abbrev r_timeout_behind_the_seal_trace : List Placed
r_timeout_behind_the_seal_trace =
    (AtTx t1, Called 1 a1 Fine) ∷ (AtTx t1, Began 60000) ∷ (AtTx t1, Called 2 a1 Fine) ∷ (AtTx t1, Enlisted e1 One) ∷ (AtTx t1, Called 3 a1 Fine) ∷ (AtTx t1, Enlisted e2 DurableSingle) ∷ (AtTx t1, Called 4 a1 Wait) ∷ (AtTx t1, Promoting MarshalCause) ∷ (AtTx t1, Sent Begin Up BeginBegin) ∷ (AtTx t1, Called 5 a1 Fine) ∷ (AtTx t1, CommitAsked) ∷ (AtTx t1, Got Begin Up BeginBegin) ∷ (AtTx t1, Sent Begin Down (BeginBegun 18446744073709551617)) ∷ (AtTx t1, Got Begin Down (BeginBegun 18446744073709551617)) ∷ (AtTx t1, Sent Voter Up (VoterVoter 18446744073709551617)) ∷ (AtTx t1, Got Voter Up (VoterVoter 18446744073709551617)) ∷ (AtTx t1, Sent Voter Down VoterCreated) ∷ (AtTx t1, Got Voter Down VoterCreated) ∷ (AtTx t1, Sent (Enl e2) Up (EnlistEnlist (info 1 e2 r1))) ∷ (AtTx t1, Got (Enl e2) Up (EnlistEnlist (info 1 e2 r1))) ∷ (AtTx t1, Sent (Enl e2) Down EnlistEnlisted) ∷ (AtTx t1, Got (Enl e2) Down EnlistEnlisted) ∷ (AtTx t1, Promoted 18446744073709551617 MarshalCause) ∷ (AtTx t1, Answered 4 (Id 18446744073709551617)) ∷ (AtTx t1, Sealed) ∷ (AtTx t1, Sent Begin Up BeginCommitOne) ∷ (AtTx t1, Got Begin Up BeginCommitOne) ∷ (AtTx t1, Sent Voter Down VoterAsk) ∷ (AtTx t1, Got Voter Down VoterAsk) ∷ (AtTx t1, Asked e1 AskPrepare) ∷ (AtTx t1, Called 6 a1 (Did 10)) ∷ (AtTx t1, Called 7 a1 Fine) ∷ (AtTx t1, Clock 60000) ∷ (AtTx t1, TimedOut) ∷ (AtTx t1, Decided Aborted) ∷ (AtTx t1, Sent Voter Up VoterNo) ∷ (AtTx t1, Told (Member e1) Aborted) ∷ (AtTx t1, Told Client Aborted) ∷ (AtTx t1, Got Voter Up VoterNo) ∷ (AtTx t1, Sent Begin Down BeginAborted) ∷ (AtTx t1, Sent (Enl e2) Down EnlistAbort) ∷ (AtTx t1, Got Begin Down BeginAborted) ∷ (AtTx t1, Got (Enl e2) Down EnlistAbort) ∷ (AtTx t1, Told (Member e2) Aborted) ∷ (AtTx t1, Called 8 a1 (OutcomeIs Aborted)) ∷ []

r_timeout_behind_the_seal : IsWorkedTrace r_timeout_behind_the_seal_lines ([]) r_timeout_behind_the_seal_trace
unfolding model
r_timeout_behind_the_seal = (refl, refl, refl, refl)
