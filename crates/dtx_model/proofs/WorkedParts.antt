-- What several worked histories have in common: what crosses between the local side, the coordinator and the enlistments there, and what follows from that.
use Rattle.std.proofs.Common.{List, [], ◌++◌, ◌∷◌}
use Rattle.dtx_values.specs.declared.entry.Answer.TheVariants.{Fine, Wait}
use Rattle.dtx_values.specs.declared.entry.Ask.TheVariants.{Prepare}
use Rattle.dtx_values.specs.declared.entry.Entry.{Entry}
use Rattle.dtx_values.specs.declared.entry.Entry.TheVariants.{Acked, Answered, Asked, Began, Called, CommitAsked, Decided, Enlisted, Freed, Got, LocalYes, Logged, Promoted, Promoting, Sealed, Sent, Told, Voted}
use Rattle.dtx_values.specs.declared.entry.Party.TheVariants.{Client, Enl as Member}
use Rattle.dtx_values.specs.declared.message.Conn.TheVariants.{Begin, Enl, Voter}
use Rattle.dtx_values.specs.declared.message.Dir.TheVariants.{Down, Up}
use Rattle.dtx_values.specs.declared.message.Message.TheVariants.{BeginBegin, BeginBegun, BeginCommit, BeginCommitted, EnlistAck, EnlistCommit, EnlistEnlist, EnlistEnlisted, EnlistPrepare, EnlistPrepared, VoterAsk, VoterCommit, VoterCreated, VoterVoter, VoterYes}
use Rattle.dtx_values.specs.declared.number.EnlNo.{EnlNo}
use Rattle.dtx_values.specs.declared.number.RmNo.{RmNo}
use Rattle.dtx_values.specs.declared.words.Cause.TheVariants.{Two}
use Rattle.dtx_values.specs.declared.words.Class.TheVariants.{DurableTwo}
use Rattle.dtx_values.specs.declared.words.Outcome.TheVariants.{Committed}
use Rattle.dtx_values.specs.declared.words.Vote.TheVariants.{Yes}
use Rattle.dtx_model.specs.Half.{info}
use Rattle.dtx_model.proofs.Cast.{a1, e1, id1, r1}

-- the coordinator begins the transaction, and the local side asks to vote there
abbrev pub begun_there : List Entry
begun_there =
    Got Begin Up BeginBegin ∷ Sent Begin Down (BeginBegun id1) ∷
    Got Begin Down (BeginBegun id1) ∷ Sent Voter Up (VoterVoter id1) ∷ []

-- the coordinator has it as a voter
abbrev pub voter_created : List Entry
voter_created = Got Voter Up (VoterVoter id1) ∷ Sent Voter Down VoterCreated ∷ []

-- the coordinator enlists e
abbrev pub enlisted_there : EnlNo → RmNo → List Entry
enlisted_there e r = Got (Enl e) Up (EnlistEnlist (info 1 e r)) ∷ Sent (Enl e) Down EnlistEnlisted ∷ []

-- the local side says yes
abbrev pub says_yes : List Entry
says_yes = LocalYes ∷ Sent Voter Up VoterYes ∷ []

-- e is asked by the coordinator to prepare
abbrev pub asked_there : EnlNo → List Entry
asked_there e = Got (Enl e) Down EnlistPrepare ∷ Asked e Prepare ∷ []

-- and says that it prepared
abbrev pub prepared_there : EnlNo → List Entry
prepared_there e = asked_there e ++ Voted e Yes ∷ Sent (Enl e) Up EnlistPrepared ∷ Got (Enl e) Up EnlistPrepared ∷ []

-- e hears the commit, and acknowledges it
abbrev pub committed_there : EnlNo → List Entry
committed_there e = Got (Enl e) Down EnlistCommit ∷ Told (Member e) Committed ∷ Acked e ∷ Sent (Enl e) Up EnlistAck ∷ Got (Enl e) Up EnlistAck ∷ []

-- Where e1 is the only one that enlisted there: the coordinator gets COMMIT and asks for the votes, and the local side says yes.
abbrev pub votes_asked : List Entry
votes_asked =
    Got Begin Up BeginCommit ∷ Sent Voter Down VoterAsk ∷ Sent (Enl e1) Down EnlistPrepare ∷
    Got Voter Down VoterAsk ∷
    says_yes

-- The coordinator has all votes: it logs the commit, tells it, and is done once e1 has acknowledged it.
abbrev pub commit_told : List Entry
commit_told =
    Logged ∷ Sent Begin Down BeginCommitted ∷ Sent Voter Down VoterCommit ∷ Sent (Enl e1) Down EnlistCommit ∷
    Got Begin Down BeginCommitted ∷ Decided Committed ∷
    Told Client Committed ∷
    Got Voter Down VoterCommit ∷
    committed_there e1 ++
    Freed ∷ []

-- begin, a two-phase durable, and commit: the durable promotes
abbrev pub asked : List Entry
asked =
    Called 1 a1 Fine ∷ Began 60000 ∷
    Called 2 a1 Wait ∷ Promoting Two ∷ Sent Begin Up BeginBegin ∷
    Called 3 a1 Fine ∷ CommitAsked ∷ []

-- the durable enlists at the coordinator, the commit goes there, and the local side says yes
abbrev pub commit_sent : List Entry
commit_sent =
    begun_there ++
    voter_created ++
    Got Voter Down VoterCreated ∷ Promoted id1 Two ∷ Sent (Enl e1) Up (EnlistEnlist (info 1 e1 r1)) ∷
    enlisted_there e1 r1 ++
    Got (Enl e1) Down EnlistEnlisted ∷ Enlisted e1 DurableTwo ∷ Answered 2 Fine ∷
    Sealed ∷ Sent Begin Up BeginCommit ∷
    votes_asked
