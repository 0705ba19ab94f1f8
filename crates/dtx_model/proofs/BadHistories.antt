-- Bad histories: each differs from a good one beside it by one thing that went wrong, and breaks a law for it. The tests compute, and name the laws
-- that are broken; of the good one it is none.
use Rattle.std.proofs.Common.{List, Some, [], refl, true, ◌++◌, ◌∷◌}
use Rattle.dtx_values.specs.declared.entry.Answer.TheVariants.{Fine, Id, Wait}
use Rattle.dtx_values.specs.declared.entry.Ask.TheVariants.{Prepare}
use Rattle.dtx_values.specs.declared.entry.Entry.{Entry}
use Rattle.dtx_values.specs.declared.entry.Entry.TheVariants.{Acked, Answered, Asked, Began, Called, Clock, CommitAsked, Decided, Enlisted, Got, Logged, Promoted, Promoting, Restarted, Sealed, Sent, TimedOut, Told, Voted}
use Rattle.dtx_values.specs.declared.entry.Party.TheVariants.{Client, Enl as Member}
use Rattle.dtx_values.specs.declared.message.Conn.TheVariants.{Begin, Enl, Voter}
use Rattle.dtx_values.specs.declared.message.Dir.TheVariants.{Down, Up}
use Rattle.dtx_values.specs.declared.message.Message.{Message}
use Rattle.dtx_values.specs.declared.message.Message.TheVariants.{BeginAborted, BeginBegin, BeginBegun, BeginCommit, BeginCommitted, EnlistAbort, EnlistAck, EnlistCommit, EnlistEnlist, EnlistEnlisted, EnlistPrepare, ReenlistAborted, ReenlistCommitted, VoterAsk, VoterCommit, VoterCreated, VoterNo, VoterYes}
use Rattle.dtx_values.specs.declared.script.Body.TheVariants.{Begin as BeginLine, Commit as CommitLine, Durable as DurableLine, Marshal as MarshalLine, Tick as TickLine, Volatile as VolatileLine}
use Rattle.dtx_values.specs.declared.script.EnlistOption.TheVariants.{Plain}
use Rattle.dtx_values.specs.declared.script.Line.{Line}
use Rattle.dtx_values.specs.declared.script.Support.TheVariants.{TwoPhase}
use Rattle.dtx_values.specs.declared.words.Cause.TheVariants.{Marshal as MarshalCause}
use Rattle.dtx_values.specs.declared.words.Class.TheVariants.{DurableTwo, One}
use Rattle.dtx_values.specs.declared.words.Outcome.{Outcome}
use Rattle.dtx_values.specs.declared.words.Outcome.TheVariants.{Aborted, Committed}
use Rattle.dtx_values.specs.declared.words.Timeout.TheVariants.{Default}
use Rattle.dtx_values.specs.declared.words.Vote.{Vote}
use Rattle.dtx_values.specs.declared.words.Vote.TheVariants.{No, Yes}
use Rattle.dtx_model.specs.Half.{info}
use Rattle.dtx_model.proofs.Cast.{a1, e1, id1, r1, says, t1}
use Rattle.dtx_model.proofs.Computing.{model}
use Rattle.dtx_model.proofs.Judging.{Agreement, Breaks, Notes, Justice, Learning, Order, Plans, Telling, Wires}
use Rattle.dtx_model.proofs.WorkedParts.{asked, begun_there, enlisted_there, prepared_there, says_yes, voter_created}
use Rattle.dtx_model.proofs.WorkedRecoveries.{comes_back, finds_the_record_lines, prepared, stopped}

-- The script of most of them. No history has the calls of all its lines.
abbrev lines : List Line
lines =
    says a1 (BeginLine t1 Default) ∷
    says a1 (MarshalLine t1) ∷
    says a1 (MarshalLine t1) ∷
    says a1 (DurableLine t1 e1 r1 (TwoPhase (Some Yes))) ∷
    says a1 (CommitLine t1) ∷
    says a1 (TickLine t1 60000) ∷ []

-- The marshal call promotes the transaction. What comes between is what is right or wrong here.
abbrev begun : List Entry → List Entry
begun x = Called 1 a1 Fine ∷ Began 60000 ∷ Called 2 a1 Wait ∷ x ++ Sent Begin Up BeginBegin ∷ []

abbrev under_way : List Entry
under_way = begun (Promoting MarshalCause ∷ [])

abbrev promoted : List Entry
promoted =
    begun_there ++
    voter_created ++
    Got Voter Down VoterCreated ∷ Promoted id1 MarshalCause ∷ Answered 2 (Id id1) ∷ []

-- It was promoted, a durable enlisted at the coordinator and voted yes, and the local side is asked for its vote.
abbrev asked_to_vote : List Entry
asked_to_vote =
    under_way ++ promoted ++
    Called 4 a1 Wait ∷ Sent (Enl e1) Up (EnlistEnlist (info 1 e1 r1)) ∷
    enlisted_there e1 r1 ++
    Got (Enl e1) Down EnlistEnlisted ∷ Enlisted e1 DurableTwo ∷ Answered 4 Fine ∷
    Called 5 a1 Fine ∷ CommitAsked ∷
    Sealed ∷ Sent Begin Up BeginCommit ∷
    Got Begin Up BeginCommit ∷ Sent Voter Down VoterAsk ∷ Sent (Enl e1) Down EnlistPrepare ∷
    prepared_there e1 ++
    Got Voter Down VoterAsk ∷ []

-- the coordinator has all votes: it logs the commit, and tells it
abbrev tells_commit : List Entry → List Entry
tells_commit x = Got Voter Up VoterYes ∷ x ++ Sent Begin Down BeginCommitted ∷ Sent Voter Down VoterCommit ∷ Sent (Enl e1) Down EnlistCommit ∷ []

abbrev logs_commit : List Entry
logs_commit = asked_to_vote ++ says_yes ++ tells_commit (Logged ∷ [])

-- the time is up, and the local side aborts
abbrev times_out : List Entry → List Entry
times_out x = Called 6 a1 Fine ∷ Clock 60000 ∷ TimedOut ∷ Decided Aborted ∷ x

abbrev says_no : List Entry
says_no = Sent Voter Up VoterNo ∷ []

-- 1. A second marshal call waits for the promotion that is under way; it doesn't begin another.
promotes_twice : Breaks lines (under_way ++ Called 3 a1 Wait ∷ []) (under_way ++ Called 3 a1 Wait ∷ Promoting MarshalCause ∷ []) (Order ∷ [])
unfolding model
promotes_twice = (refl, refl)

-- 2. It is promoted, and no promotion began.
promoted_from_nothing : Breaks lines (begun (Promoting MarshalCause ∷ []) ++ promoted) (begun [] ++ promoted) (Order ∷ [])
unfolding model
promoted_from_nothing = (refl, refl)

-- 3. The coordinator gets a message twice that was sent once.
gets_twice : Breaks lines (under_way ++ Got Begin Up BeginBegin ∷ []) (under_way ++ Got Begin Up BeginBegin ∷ Got Begin Up BeginBegin ∷ []) (Wires ∷ [])
unfolding model
gets_twice = (refl, refl)

-- 4. The local side gets an answer that the coordinator hasn't sent.
abbrev answered : List Entry → List Entry
answered x = under_way ++ Got Begin Up BeginBegin ∷ x ++ Got Begin Down (BeginBegun id1) ∷ []

gets_unsent : Breaks lines (answered (Sent Begin Down (BeginBegun id1) ∷ [])) (answered []) (Wires ∷ [])
unfolding model
gets_unsent = (refl, refl)

-- 5. The durable is told the commit before the message that brings it. The commit is logged, so what it is told is true; but nobody here knows it yet.
told_too_early :
    Breaks lines (logs_commit ++ Got (Enl e1) Down EnlistCommit ∷ Told (Member e1) Committed ∷ []) (logs_commit ++ Told (Member e1) Committed ∷ Got (Enl e1) Down EnlistCommit ∷ []) (Telling ∷ [])
unfolding model
told_too_early = (refl, refl)

-- 6. After its yes the local side may not abort by itself: then a timeout is no cause.
abbrev client_told_no : List Entry
client_told_no = times_out says_no ++ Told Client Aborted ∷ []

aborts_after_yes : Breaks lines (asked_to_vote ++ client_told_no) (asked_to_vote ++ says_yes ++ client_told_no) (Justice ∷ [])
unfolding model
aborts_after_yes = (refl, refl)

-- 7. The client is told that it is committed, and the coordinator has logged nothing.
abbrev client_told : List Entry → List Entry
client_told x = asked_to_vote ++ says_yes ++ tells_commit x ++ Got Begin Down BeginCommitted ∷ Decided Committed ∷ Told Client Committed ∷ []

committed_unlogged : Breaks lines (client_told (Logged ∷ [])) (client_told []) (Justice ∷ [])
unfolding model
committed_unlogged = (refl, refl)

-- 8. After a stop the record of the commit was found, and the durable that came back is told that it aborted.
abbrev comes_back_after_stop : Message → Outcome → List Entry
comes_back_after_stop m x = asked ++ prepared ++ stopped ++ Restarted true ∷ comes_back m x

learns_the_opposite : Breaks finds_the_record_lines (comes_back_after_stop ReenlistCommitted Committed) (comes_back_after_stop ReenlistAborted Aborted) (Justice ∷ Learning ∷ [])
unfolding model
learns_the_opposite = (refl, refl)

-- 9. The time is up, and the client is told the abort; but the local side votes yes instead of no. What each is told is just when it is told it, but the client
-- has an abort and the durable a commit.
abbrev votes_late : List Entry → List Entry → List Entry
votes_late vote x = asked_to_vote ++ times_out vote ++ Told Client Aborted ∷ x

abbrev told_abort : List Entry
told_abort =
    Got Voter Up VoterNo ∷ Sent Begin Down BeginAborted ∷ Sent (Enl e1) Down EnlistAbort ∷
    Got (Enl e1) Down EnlistAbort ∷ Told (Member e1) Aborted ∷ []

abbrev told_commit : List Entry
told_commit = tells_commit (Logged ∷ []) ++ Got (Enl e1) Down EnlistCommit ∷ Told (Member e1) Committed ∷ []

tells_both : Breaks lines (votes_late says_no told_abort) (votes_late says_yes told_commit) (Agreement ∷ [])
unfolding model
tells_both = (refl, refl)

-- 10. It is decided twice, though both times alike.
decides_twice : Breaks lines (asked_to_vote ++ times_out says_no) (asked_to_vote ++ times_out (Decided Aborted ∷ says_no)) (Agreement ∷ [])
unfolding model
decides_twice = (refl, refl)

-- 11. The durable acknowledges a commit that didn't reach it.
abbrev acknowledges : List Entry → List Entry
acknowledges x = logs_commit ++ x ++ Acked e1 ∷ Sent (Enl e1) Up EnlistAck ∷ []

acknowledges_nothing : Breaks lines (acknowledges (Got (Enl e1) Down EnlistCommit ∷ Told (Member e1) Committed ∷ [])) (acknowledges []) (Notes ∷ [])
unfolding model
acknowledges_nothing = (refl, refl)

-- 12. A volatile votes no, and its line plans yes.
abbrev volatile_lines : List Line
volatile_lines = says a1 (BeginLine t1 Default) ∷ says a1 (VolatileLine t1 e1 Plain (Some Yes)) ∷ says a1 (CommitLine t1) ∷ []

abbrev votes : Vote → List Entry
votes v = Called 1 a1 Fine ∷ Began 60000 ∷ Called 2 a1 Fine ∷ Enlisted e1 One ∷ Called 3 a1 Fine ∷ CommitAsked ∷ Sealed ∷ Asked e1 Prepare ∷ Voted e1 v ∷ []

votes_otherwise : Breaks volatile_lines (votes Yes) (votes No) (Plans ∷ [])
unfolding model
votes_otherwise = (refl, refl)
