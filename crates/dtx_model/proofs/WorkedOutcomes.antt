-- Worked histories: how one transaction that is promoted for a marshal call ends. One line is one step: what it brings, and what follows from that; or it names the
-- entries of several, of `WorkedParts`.
use Rattle.std.proofs.Common.{List, Some, [], false, refl, ◌++◌, ◌∷◌}
use Rattle.dtx_values.specs.declared.entry.Answer.TheVariants.{Ended as EndedBy, Fine, Id, NoSuch, StillOpen, True, Wait}
use Rattle.dtx_values.specs.declared.entry.Ask.TheVariants.{Promote}
use Rattle.dtx_values.specs.declared.entry.Entry.{Entry}
use Rattle.dtx_values.specs.declared.entry.Entry.TheVariants.{Answered, Asked, Began, Called, CommitAsked, Cut, Decided, Down as Ended, Enlisted, Got, Init, PromoteReply, Promoted, Promoting, PromotionFailed, RollbackAsked, Sealed, Sent, Told, Voted}
use Rattle.dtx_values.specs.declared.entry.Party.TheVariants.{Client, Enl as Member}
use Rattle.dtx_values.specs.declared.message.Conn.TheVariants.{Begin, Enl, Voter}
use Rattle.dtx_values.specs.declared.message.Dir.TheVariants.{Down, Up}
use Rattle.dtx_values.specs.declared.message.Message.TheVariants.{BeginAbort, BeginAborted, BeginBegin, BeginBegun, BeginCommit, EnlistEnlist, EnlistEnlisted, EnlistNo, EnlistPrepared, VoterAbort, VoterCreated, VoterYes}
use Rattle.dtx_values.specs.declared.script.Body.TheVariants.{Await as AwaitLine, Begin as BeginLine, Commit as CommitLine, Durable as DurableLine, Lose as LoseLine, Marshal as MarshalLine, Promotable as PromotableLine, Rollback as RollbackLine, Volatile as VolatileLine}
use Rattle.dtx_values.specs.declared.script.EnlistOption.TheVariants.{Plain}
use Rattle.dtx_values.specs.declared.script.Line.{Line}
use Rattle.dtx_values.specs.declared.script.Support.TheVariants.{TwoPhase}
use Rattle.dtx_values.specs.declared.words.Cause.TheVariants.{Marshal as MarshalCause}
use Rattle.dtx_values.specs.declared.words.Class.TheVariants.{DurableTwo, One, Promotable as PromotableClass}
use Rattle.dtx_values.specs.declared.words.Outcome.TheVariants.{Aborted, Committed}
use Rattle.dtx_values.specs.declared.words.Timeout.TheVariants.{Default}
use Rattle.dtx_values.specs.declared.words.Vote.{Vote}
use Rattle.dtx_values.specs.declared.words.Vote.TheVariants.{No, Yes}
use Rattle.dtx_model.specs.Half.{info}
use Rattle.dtx_model.specs.Words.{past_of}
use Rattle.dtx_model.proofs.Cast.{a1, e1, e2, id1, r1, says, t1}
use Rattle.dtx_model.proofs.Computing.{model}
use Rattle.dtx_model.proofs.Crossing.{wired}
use Rattle.dtx_model.proofs.Working.{IsWorked}
use Rattle.dtx_model.proofs.WorkedParts.{asked_there, begun_there, commit_told, enlisted_there, voter_created, votes_asked}

-- The transaction is marshaled, so it goes to the coordinator. A durable enlists there, and is to vote so.
abbrev votes : Vote → List Line
votes v =
    says a1 (BeginLine t1 Default) ∷
    says a1 (MarshalLine t1) ∷
    says a1 (AwaitLine t1) ∷
    says a1 (DurableLine t1 e1 r1 (TwoPhase (Some v))) ∷
    says a1 (CommitLine t1) ∷ []

-- the local side says yes, and the durable is asked for its vote
abbrev votes_wanted : List Entry
votes_wanted =
    Called 1 a1 Fine ∷ Began 60000 ∷
    Called 2 a1 Wait ∷ Promoting MarshalCause ∷ Sent Begin Up BeginBegin ∷
    begun_there ++
    voter_created ++
    Got Voter Down VoterCreated ∷ Promoted id1 MarshalCause ∷ Answered 2 (Id id1) ∷
    Called 3 a1 StillOpen ∷
    Called 4 a1 Wait ∷ Sent (Enl e1) Up (EnlistEnlist (info 1 e1 r1)) ∷
    Called 5 a1 Fine ∷ CommitAsked ∷
    enlisted_there e1 r1 ++
    Got (Enl e1) Down EnlistEnlisted ∷ Enlisted e1 DurableTwo ∷ Answered 4 Fine ∷
    Sealed ∷ Sent Begin Up BeginCommit ∷
    votes_asked ++
    Got Voter Up VoterYes ∷
    asked_there e1

-- The durable says yes, and the coordinator logs the commit and tells it.
abbrev pub commits_lines : List Line
commits_lines = votes Yes

abbrev pub commits_history : List Entry
commits_history =
    votes_wanted ++
    Voted e1 Yes ∷ Sent (Enl e1) Up EnlistPrepared ∷
    Got (Enl e1) Up EnlistPrepared ∷
    commit_told

commits : IsWorked commits_lines [] [] commits_history
unfolding model
commits = (refl, refl, refl, refl, refl, wired (past_of commits_history) refl, refl, refl, refl, refl)

-- The durable votes no: the coordinator aborts, and who voted no hears nothing more.
abbrev pub votes_no_lines : List Line
votes_no_lines = votes No

abbrev pub votes_no_history : List Entry
votes_no_history =
    votes_wanted ++
    Voted e1 No ∷ Sent (Enl e1) Up EnlistNo ∷
    Got (Enl e1) Up EnlistNo ∷ Sent Begin Down BeginAborted ∷ Sent Voter Down VoterAbort ∷
    Got Begin Down BeginAborted ∷ Decided Aborted ∷
    Told Client Aborted ∷
    Got Voter Down VoterAbort ∷ []

votes_no : IsWorked votes_no_lines [] [] votes_no_history
unfolding model
votes_no = (refl, refl, refl, refl, refl, wired (past_of votes_no_history) refl, refl, refl, refl, refl)

-- A rollback while the promotion is on its way: the promotion fails, the marshal call ends so, and the coordinator is told as soon as it answers.
abbrev pub rolls_back_lines : List Line
rolls_back_lines =
    says a1 (BeginLine t1 Default) ∷
    says a1 (MarshalLine t1) ∷
    says a1 (RollbackLine t1) ∷ []

abbrev pub rolls_back_history : List Entry
rolls_back_history =
    Called 1 a1 Fine ∷ Began 60000 ∷
    Called 2 a1 Wait ∷ Promoting MarshalCause ∷ Sent Begin Up BeginBegin ∷
    Called 3 a1 Fine ∷ RollbackAsked ∷ PromotionFailed ∷ Decided Aborted ∷ Answered 2 (EndedBy Aborted) ∷
    Told Client Aborted ∷
    Got Begin Up BeginBegin ∷ Sent Begin Down (BeginBegun id1) ∷
    Got Begin Down (BeginBegun id1) ∷ Sent Begin Up BeginAbort ∷
    Got Begin Up BeginAbort ∷ Sent Begin Down BeginAborted ∷
    Got Begin Down BeginAborted ∷ []

rolls_back : IsWorked rolls_back_lines [] [] rolls_back_history
unfolding model
rolls_back = (refl, refl, refl, refl, refl, wired (past_of rolls_back_history) refl, refl, refl, refl, refl)

-- The promotable can't promote its transaction: that aborts it.
abbrev pub cannot_promote_lines : List Line
cannot_promote_lines =
    says a1 (BeginLine t1 Default) ∷
    says a1 (PromotableLine t1 e1 r1 (Some Yes) (Some Committed) (Some false)) ∷
    says a1 (VolatileLine t1 e2 Plain (Some Yes)) ∷
    says a1 (MarshalLine t1) ∷ []

abbrev pub cannot_promote_history : List Entry
cannot_promote_history =
    Called 1 a1 Fine ∷ Began 60000 ∷
    Called 2 a1 True ∷ Enlisted e1 PromotableClass ∷ Init e1 ∷
    Called 3 a1 Fine ∷ Enlisted e2 One ∷
    Called 4 a1 Wait ∷ Promoting MarshalCause ∷
    Asked e1 Promote ∷
    PromoteReply e1 false ∷ PromotionFailed ∷ Decided Aborted ∷ Answered 4 (EndedBy Aborted) ∷
    Told (Member e1) Aborted ∷
    Told (Member e2) Aborted ∷
    Told Client Aborted ∷ []

cannot_promote : IsWorked cannot_promote_lines [] [] cannot_promote_history
unfolding model
cannot_promote = (refl, refl, refl, refl, refl, wired (past_of cannot_promote_history) refl, refl, refl, refl, refl)

-- The connection that begins the transaction at the coordinator is lost with its message: both sides see its end, and here that is a veto.
abbrev pub loses_begin_lines : List Line
loses_begin_lines =
    says a1 (BeginLine t1 Default) ∷
    says a1 (MarshalLine t1) ∷
    says a1 (LoseLine t1 Begin 0 0) ∷ []

abbrev pub loses_begin_history : List Entry
loses_begin_history =
    Called 1 a1 Fine ∷ Began 60000 ∷
    Called 2 a1 Wait ∷ Promoting MarshalCause ∷ Sent Begin Up BeginBegin ∷
    Called 3 a1 Fine ∷ Cut Begin 0 0 ∷
    Ended Begin Up ∷
    Ended Begin Down ∷ PromotionFailed ∷ Decided Aborted ∷ Answered 2 (EndedBy Aborted) ∷
    Told Client Aborted ∷ []

loses_begin : IsWorked loses_begin_lines [] [] loses_begin_history
unfolding model
loses_begin = (refl, refl, refl, refl, refl, wired (past_of loses_begin_history) refl, refl, refl, refl, refl)

-- Nothing is lost where the connection isn't open yet.
abbrev pub loses_none_lines : List Line
loses_none_lines =
    says a1 (BeginLine t1 Default) ∷
    says a1 (MarshalLine t1) ∷
    says a1 (LoseLine t1 Voter 0 0) ∷ []

abbrev pub loses_none_history : List Entry
loses_none_history =
    Called 1 a1 Fine ∷ Began 60000 ∷
    Called 2 a1 Wait ∷ Promoting MarshalCause ∷ Sent Begin Up BeginBegin ∷
    Called 3 a1 NoSuch ∷
    begun_there ++
    voter_created ++
    Got Voter Down VoterCreated ∷ Promoted id1 MarshalCause ∷ Answered 2 (Id id1) ∷ []

loses_none : IsWorked loses_none_lines [] [] loses_none_history
unfolding model
loses_none = (refl, refl, refl, refl, refl, wired (past_of loses_none_history) refl, refl, refl, refl, refl)
