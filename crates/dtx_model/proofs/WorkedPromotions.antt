-- Worked histories: promotions that a second durable, a promotable or a two-phase durable brings.
use Rattle.std.proofs.Common.{List, Some, [], refl, true, ◌++◌, ◌∷◌}
use Rattle.dtx_values.specs.declared.entry.Answer.TheVariants.{Did, Fine, Id, True, Wait}
use Rattle.dtx_values.specs.declared.entry.Ask.TheVariants.{Prepare, Promote, Single}
use Rattle.dtx_values.specs.declared.entry.Entry.{Entry}
use Rattle.dtx_values.specs.declared.entry.Entry.TheVariants.{Answered, Asked, Began, Called, CommitAsked, Cut, Decided, Down as Ended, Enlisted, Freed, Got, Init, Logged, PromoteReply, Promoted, Promoting, Requested, Sealed, Sent, Told, Voted}
use Rattle.dtx_values.specs.declared.entry.Party.TheVariants.{Client, Enl as Member}
use Rattle.dtx_values.specs.declared.entry.Request.TheVariants.{Commit as RequestCommit}
use Rattle.dtx_values.specs.declared.message.Conn.TheVariants.{Begin, Enl, Voter}
use Rattle.dtx_values.specs.declared.message.Dir.TheVariants.{Down, Up}
use Rattle.dtx_values.specs.declared.message.Message.TheVariants.{BeginBegin, BeginCommit, BeginCommitted, EnlistCommit, EnlistEnlist, EnlistEnlisted, EnlistPrepare, VoterAsk, VoterCommit, VoterCreated, VoterYes}
use Rattle.dtx_values.specs.declared.script.Body.TheVariants.{Begin as BeginLine, Commit as CommitLine, Do as DoLine, Durable as DurableLine, Lose as LoseLine, Marshal as MarshalLine, Promotable as PromotableLine, Volatile as VolatileLine}
use Rattle.dtx_values.specs.declared.script.EnlistOption.TheVariants.{DuringPrepare}
use Rattle.dtx_values.specs.declared.script.Line.{Line}
use Rattle.dtx_values.specs.declared.script.Support.TheVariants.{SinglePhase, TwoPhase}
use Rattle.dtx_values.specs.declared.words.Cause.TheVariants.{Marshal as MarshalCause, Second}
use Rattle.dtx_values.specs.declared.words.Class.TheVariants.{DurableSingle, DurableTwo, Promotable as PromotableClass, Zero}
use Rattle.dtx_values.specs.declared.words.Outcome.TheVariants.{Committed, InDoubt}
use Rattle.dtx_values.specs.declared.words.Timeout.TheVariants.{Default}
use Rattle.dtx_values.specs.declared.words.Vote.TheVariants.{Yes}
use Rattle.dtx_model.specs.Half.{info}
use Rattle.dtx_model.specs.Words.{past_of}
use Rattle.dtx_model.proofs.Cast.{a1, a2, a3, a4, e1, e2, e3, id1, r1, r2, r3, says, t1}
use Rattle.dtx_model.proofs.Computing.{model}
use Rattle.dtx_model.proofs.Crossing.{wired}
use Rattle.dtx_model.proofs.Working.{IsWorked}
use Rattle.dtx_model.proofs.WorkedParts.{asked, begun_there, commit_sent, commit_told, committed_there, enlisted_there, prepared_there, says_yes, voter_created, votes_asked}

-- Phase zero: while a volatile prepares, a second durable enlists. The first is handed over to the coordinator, the second enlists there, and both prepare.
abbrev pub second_durable_lines : List Line
second_durable_lines =
    says a1 (BeginLine t1 Default) ∷
    says a1 (VolatileLine t1 e1 DuringPrepare (Some Yes)) ∷
    says a1 (DurableLine t1 e2 r1 (SinglePhase (Some Yes) (Some Committed))) ∷
    says a1 (CommitLine t1) ∷
    says a1 (DoLine t1 1 1) ∷
    says a1 (DurableLine t1 e3 r2 (SinglePhase (Some Yes) (Some Committed))) ∷ []

abbrev pub second_durable_history : List Entry
second_durable_history =
    Called 1 a1 Fine ∷ Began 60000 ∷
    Called 2 a1 Fine ∷ Enlisted e1 Zero ∷
    Called 3 a1 Fine ∷ Enlisted e2 DurableSingle ∷
    Called 4 a1 Fine ∷ CommitAsked ∷
    Asked e1 Prepare ∷
    Called 5 a1 (Did 1) ∷
    Called 6 a1 Wait ∷ Promoting Second ∷ Sent Begin Up BeginBegin ∷
    Voted e1 Yes ∷
    begun_there ++
    voter_created ++
    Got Voter Down VoterCreated ∷ Sent (Enl e2) Up (EnlistEnlist (info 1 e2 r1)) ∷
    enlisted_there e2 r1 ++
    Got (Enl e2) Down EnlistEnlisted ∷ Promoted id1 Second ∷ Sent (Enl e3) Up (EnlistEnlist (info 1 e3 r2)) ∷
    enlisted_there e3 r2 ++
    Got (Enl e3) Down EnlistEnlisted ∷ Enlisted e3 DurableSingle ∷ Answered 6 Fine ∷
    Sealed ∷ Sent Begin Up BeginCommit ∷
    Got Begin Up BeginCommit ∷ Sent Voter Down VoterAsk ∷ Sent (Enl e2) Down EnlistPrepare ∷ Sent (Enl e3) Down EnlistPrepare ∷
    Got Voter Down VoterAsk ∷
    says_yes ++
    Got Voter Up VoterYes ∷
    prepared_there e2 ++
    prepared_there e3 ++
    Logged ∷ Sent Begin Down BeginCommitted ∷ Sent Voter Down VoterCommit ∷ Sent (Enl e2) Down EnlistCommit ∷ Sent (Enl e3) Down EnlistCommit ∷
    Got Begin Down BeginCommitted ∷ Decided Committed ∷
    Told (Member e1) Committed ∷
    Told Client Committed ∷
    Got Voter Down VoterCommit ∷
    committed_there e2 ++
    committed_there e3 ++
    Freed ∷ []

second_durable : IsWorked second_durable_lines [] [] second_durable_history
unfolding model
second_durable = (refl, refl, refl, refl, refl, wired (past_of second_durable_history) refl, refl, refl, refl, refl)

-- Two more durables wait while the first is handed over; the commit that was asked meanwhile waits for them.
abbrev pub waits_for_handover_lines : List Line
waits_for_handover_lines =
    says a1 (BeginLine t1 Default) ∷
    says a1 (DurableLine t1 e1 r1 (SinglePhase (Some Yes) (Some Committed))) ∷
    says a2 (DurableLine t1 e2 r2 (SinglePhase (Some Yes) (Some Committed))) ∷
    says a1 (DoLine t1 1 2) ∷
    says a3 (CommitLine t1) ∷
    says a4 (DurableLine t1 e3 r3 (TwoPhase (Some Yes))) ∷ []

abbrev pub waits_for_handover_history : List Entry
waits_for_handover_history =
    Called 1 a1 Fine ∷ Began 60000 ∷
    Called 2 a1 Fine ∷ Enlisted e1 DurableSingle ∷
    Called 3 a2 Wait ∷ Promoting Second ∷ Sent Begin Up BeginBegin ∷
    begun_there ++
    Called 4 a1 (Did 2) ∷
    Called 5 a3 Fine ∷ CommitAsked ∷
    Called 6 a4 Wait ∷
    voter_created ++
    Got Voter Down VoterCreated ∷ Sent (Enl e1) Up (EnlistEnlist (info 1 e1 r1)) ∷
    enlisted_there e1 r1 ++
    Got (Enl e1) Down EnlistEnlisted ∷ Promoted id1 Second ∷ Sent (Enl e2) Up (EnlistEnlist (info 1 e2 r2)) ∷ Sent (Enl e3) Up (EnlistEnlist (info 1 e3 r3)) ∷
    enlisted_there e2 r2 ++
    Got (Enl e2) Down EnlistEnlisted ∷ Enlisted e2 DurableSingle ∷ Answered 3 Fine ∷
    enlisted_there e3 r3 ++
    Got (Enl e3) Down EnlistEnlisted ∷ Enlisted e3 DurableTwo ∷ Answered 6 Fine ∷
    Sealed ∷ Sent Begin Up BeginCommit ∷
    Got Begin Up BeginCommit ∷ Sent Voter Down VoterAsk ∷ Sent (Enl e1) Down EnlistPrepare ∷ Sent (Enl e2) Down EnlistPrepare ∷ Sent (Enl e3) Down EnlistPrepare ∷
    Got Voter Down VoterAsk ∷
    says_yes ++
    Got Voter Up VoterYes ∷
    prepared_there e1 ++
    prepared_there e2 ++
    prepared_there e3 ++
    Logged ∷ Sent Begin Down BeginCommitted ∷ Sent Voter Down VoterCommit ∷ Sent (Enl e1) Down EnlistCommit ∷ Sent (Enl e2) Down EnlistCommit ∷ Sent (Enl e3) Down EnlistCommit ∷
    Got Begin Down BeginCommitted ∷ Decided Committed ∷
    Told Client Committed ∷
    Got Voter Down VoterCommit ∷
    committed_there e1 ++
    committed_there e2 ++
    committed_there e3 ++
    Freed ∷ []

waits_for_handover : IsWorked waits_for_handover_lines [] [] waits_for_handover_history
unfolding model
waits_for_handover = (refl, refl, refl, refl, refl, wired (past_of waits_for_handover_history) refl, refl, refl, refl, refl)

-- A promotable promotes its transaction, and commits it in a single phase: it requests that of the coordinator, where it prepares like the others.
abbrev pub promotable_commits_lines : List Line
promotable_commits_lines =
    says a1 (BeginLine t1 Default) ∷
    says a1 (PromotableLine t1 e1 r1 (Some Yes) (Some Committed) (Some true)) ∷
    says a1 (MarshalLine t1) ∷
    says a1 (CommitLine t1) ∷ []

abbrev pub promotable_commits_history : List Entry
promotable_commits_history =
    Called 1 a1 Fine ∷ Began 60000 ∷
    Called 2 a1 True ∷ Enlisted e1 PromotableClass ∷ Init e1 ∷
    Called 3 a1 Wait ∷ Promoting MarshalCause ∷
    Called 4 a1 Fine ∷ CommitAsked ∷
    Asked e1 Promote ∷
    PromoteReply e1 true ∷ Sent Begin Up BeginBegin ∷
    begun_there ++
    voter_created ++
    Got Voter Down VoterCreated ∷ Sent (Enl e1) Up (EnlistEnlist (info 1 e1 r1)) ∷
    enlisted_there e1 r1 ++
    Got (Enl e1) Down EnlistEnlisted ∷ Promoted id1 MarshalCause ∷ Answered 3 (Id id1) ∷
    Sealed ∷
    Asked e1 Single ∷
    Requested e1 RequestCommit ∷ Sent Begin Up BeginCommit ∷
    votes_asked ++
    Got Voter Up VoterYes ∷
    prepared_there e1 ++
    commit_told

promotable_commits : IsWorked promotable_commits_lines [] [] promotable_commits_history
unfolding model
promotable_commits = (refl, refl, refl, refl, refl, wired (past_of promotable_commits_history) refl, refl, refl, refl, refl)

-- Both connections are lost after the local yes: here the outcome is in doubt, while the coordinator commits and the durable hears that.
abbrev pub loses_both_lines : List Line
loses_both_lines =
    says a1 (BeginLine t1 Default) ∷
    says a1 (DurableLine t1 e1 r1 (TwoPhase (Some Yes))) ∷
    says a1 (CommitLine t1) ∷
    says a1 (DoLine t1 1 10) ∷
    says a1 (LoseLine t1 Begin 0 0) ∷
    says a1 (LoseLine t1 Voter 1 0) ∷ []

abbrev pub loses_both_history : List Entry
loses_both_history =
    asked ++
    commit_sent ++
    Called 4 a1 (Did 10) ∷
    Called 5 a1 Fine ∷ Cut Begin 0 0 ∷
    Called 6 a1 Fine ∷ Cut Voter 1 0 ∷
    Ended Begin Up ∷
    Ended Begin Down ∷
    Got Voter Up VoterYes ∷
    Ended Voter Up ∷
    Ended Voter Down ∷ Decided InDoubt ∷
    Told Client InDoubt ∷
    prepared_there e1 ++
    Logged ∷ Sent (Enl e1) Down EnlistCommit ∷
    committed_there e1 ++
    Freed ∷ []

loses_both : IsWorked loses_both_lines [] [] loses_both_history
unfolding model
loses_both = (refl, refl, refl, refl, refl, wired (past_of loses_both_history) refl, refl, refl, refl, refl)
