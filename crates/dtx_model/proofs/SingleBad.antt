-- Bad histories of the single-phase request: each differs from a good one beside it by one thing that went wrong, and breaks the law that is named for it.
use Rattle.std.proofs.Common.{List, Some, [], refl, ◌++◌, ◌∷◌}
use Rattle.dtx_values.specs.declared.entry.Answer.TheVariants.{Fine, Id, Wait}
use Rattle.dtx_values.specs.declared.entry.Entry.{Entry}
use Rattle.dtx_values.specs.declared.entry.Entry.TheVariants.{Answered, Began, Called, CommitAsked, Cut, Decided, Down as DownEntry, Enlisted, Got, Handed, LocalYes, OwnerAnswered, Promoted, Promoting, Sealed, Sent, Told}
use Rattle.dtx_values.specs.declared.entry.Party.TheVariants.{Client}
use Rattle.dtx_values.specs.declared.message.Conn.TheVariants.{Begin, Enl, Voter}
use Rattle.dtx_values.specs.declared.message.Dir.TheVariants.{Down, Up}
use Rattle.dtx_values.specs.declared.message.Message.TheVariants.{BeginAborted, BeginBegin, BeginCommitOne, BeginCommitted, BeginInDoubt, EnlistEnlist, EnlistEnlisted, EnlistOneCommitted, EnlistSingle, VoterAbort, VoterAsk, VoterCommit, VoterCreated, VoterInDoubt, VoterYes}
use Rattle.dtx_values.specs.declared.script.Body.TheVariants.{Begin as BeginLine, Commit as CommitLine, Durable as DurableLine, Gone as GoneLine, Marshal as MarshalLine, Reenlist as ReenlistLine, Tick as TickLine}
use Rattle.dtx_values.specs.declared.script.Line.{Line}
use Rattle.dtx_values.specs.declared.script.Support.TheVariants.{SinglePhase}
use Rattle.dtx_values.specs.declared.words.Cause.TheVariants.{Marshal as MarshalCause}
use Rattle.dtx_values.specs.declared.words.Class.TheVariants.{DurableSingle}
use Rattle.dtx_values.specs.declared.words.Outcome.TheVariants.{Aborted, Committed, InDoubt}
use Rattle.dtx_values.specs.declared.words.Timeout.TheVariants.{Default}
use Rattle.dtx_values.specs.declared.words.Vote.TheVariants.{Yes}
use Rattle.dtx_model.specs.Half.{info}
use Rattle.dtx_model.proofs.Cast.{a1, e1, id1, r1, says, t1}
use Rattle.dtx_model.proofs.Computing.{model}
use Rattle.dtx_model.proofs.Judging.{Agreement, Breaks, Justice, Notes, Telling, Wires}
use Rattle.dtx_model.proofs.WorkedParts.{begun_there, enlisted_there, voter_created}

-- The script of all of them. No history has the calls of all its lines.
abbrev lines : List Line
lines =
    says a1 (BeginLine t1 Default) ∷
    says a1 (DurableLine t1 e1 r1 (SinglePhase (Some Yes) (Some Committed))) ∷
    says a1 (MarshalLine t1) ∷
    says a1 (CommitLine t1) ∷
    says a1 (TickLine t1 60000) ∷
    says a1 (GoneLine e1) ∷
    says a1 (ReenlistLine e1) ∷ []

-- the durable is local, the marshal call promotes, and the commit goes to the coordinator as COMMITONE, which asks for the vote
abbrev asked_there : List Entry
asked_there =
    Called 1 a1 Fine ∷ Began 60000 ∷ Called 2 a1 Fine ∷ Enlisted e1 DurableSingle ∷
    Called 3 a1 Wait ∷ Promoting MarshalCause ∷ Sent Begin Up BeginBegin ∷
    Called 4 a1 Fine ∷ CommitAsked ∷
    begun_there ++
    voter_created ++
    Got Voter Down VoterCreated ∷ Sent (Enl e1) Up (EnlistEnlist (info 1 e1 r1)) ∷
    enlisted_there e1 r1 ++
    Got (Enl e1) Down EnlistEnlisted ∷ Promoted id1 MarshalCause ∷ Answered 3 (Id id1) ∷
    Sealed ∷ Sent Begin Up BeginCommitOne ∷ Got Begin Up BeginCommitOne ∷ Sent Voter Down VoterAsk ∷
    Got Voter Down VoterAsk ∷ []

-- the local side votes yes, and the coordinator gives the commit to the durable
abbrev yes : List Entry
yes = LocalYes ∷ Sent Voter Up VoterYes ∷ Got Voter Up VoterYes ∷ Sent (Enl e1) Down EnlistSingle ∷ []

abbrev handed : List Entry
handed = yes ++ Got (Enl e1) Down EnlistSingle ∷ Handed e1 ∷ []

abbrev owner_commits : List Entry
owner_commits = OwnerAnswered e1 Committed ∷ Sent (Enl e1) Up EnlistOneCommitted ∷ []

abbrev coordinator_tells : List Entry
coordinator_tells = Got (Enl e1) Up EnlistOneCommitted ∷ Sent Begin Down BeginCommitted ∷ Sent Voter Down VoterCommit ∷ []

abbrev hears_commit : List Entry
hears_commit = Got Begin Down BeginCommitted ∷ Decided Committed ∷ Told Client Committed ∷ []

-- 1. The client is told the commit before the coordinator says it: what it is told is true, but nobody here has decided it.
told_too_early :
    Breaks lines (asked_there ++ handed ++ owner_commits ++ coordinator_tells ++ hears_commit) (asked_there ++ handed ++ owner_commits ++ Told Client Committed ∷ []) (Telling ∷ [])
unfolding model
told_too_early = (refl, refl)

-- 2. The client is told the commit, and the owner hasn't answered.
committed_unanswered :
    Breaks lines (asked_there ++ handed ++ owner_commits ++ coordinator_tells ++ hears_commit) (asked_there ++ handed ++ coordinator_tells ++ hears_commit) (Wires ∷ Justice ∷ [])
unfolding model
committed_unanswered = (refl, refl)

-- 3. The coordinator answers for the owner: it tells the commit when it gave the commit away.
committed_by_itself :
    Breaks lines (asked_there ++ handed ++ owner_commits ++ coordinator_tells ++ hears_commit)
    (asked_there ++ yes ++ Sent Begin Down BeginCommitted ∷ hears_commit) (Justice ∷ [])
unfolding model
committed_by_itself = (refl, refl)

-- 4. The owner committed, and the client is told an abort.
aborted_behind_the_owner :
    Breaks lines (asked_there ++ handed ++ owner_commits ++ coordinator_tells ++ hears_commit)
    (asked_there ++ handed ++ owner_commits ++ Got (Enl e1) Up EnlistOneCommitted ∷ Sent Begin Down BeginAborted ∷ Got Begin Down BeginAborted ∷ Decided Aborted ∷ Told Client Aborted ∷ [])
    (Justice ∷ Agreement ∷ [])
unfolding model
aborted_behind_the_owner = (refl, refl)

-- 5. The end of the owner's connection behind SINGLE is no abort: the coordinator is in doubt.
abbrev loses_the_owner : List Entry → List Entry
loses_the_owner x = asked_there ++ handed ++ Cut (Enl e1) 0 0 ∷ DownEntry (Enl e1) Up ∷ x

doubted_by_the_end :
    Breaks lines
    (loses_the_owner (Sent Begin Down BeginInDoubt ∷ Sent Voter Down VoterInDoubt ∷ Got Begin Down BeginInDoubt ∷ Decided InDoubt ∷ Told Client InDoubt ∷ []))
    (loses_the_owner (Sent Begin Down BeginAborted ∷ Sent Voter Down VoterAbort ∷ Got Begin Down BeginAborted ∷ Decided Aborted ∷ Told Client Aborted ∷ [])) (Justice ∷ [])
unfolding model
doubted_by_the_end = (refl, refl)

-- 6. The local side lost both connections. The client is told a doubt, and the local side hasn't said yes: nobody else can commit yet.
abbrev loses_both : List Entry → List Entry
loses_both x = asked_there ++ x ++ Cut Begin 0 0 ∷ DownEntry Begin Down ∷ Cut Voter 0 0 ∷ DownEntry Voter Down ∷ Decided InDoubt ∷ Told Client InDoubt ∷ []

doubt_before_yes : Breaks lines (loses_both (LocalYes ∷ Sent Voter Up VoterYes ∷ [])) (loses_both []) (Justice ∷ [])
unfolding model
doubt_before_yes = (refl, refl)

-- 7. The durable gets the commit that nobody sent it.
gets_unsent :
    Breaks lines (asked_there ++ handed) (asked_there ++ LocalYes ∷ Sent Voter Up VoterYes ∷ Got Voter Up VoterYes ∷ Got (Enl e1) Down EnlistSingle ∷ Handed e1 ∷ []) (Wires ∷ [])
unfolding model
gets_unsent = (refl, refl)

-- 8. The owner answers, and it has nothing to answer.
answers_unasked : Breaks lines (asked_there ++ handed ++ owner_commits) (asked_there ++ yes ++ owner_commits) (Notes ∷ [])
unfolding model
answers_unasked = (refl, refl)
