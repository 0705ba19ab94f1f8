-- More messages by their names, as tests: what comes down, and the votes.
use Rattle.std.proofs.Common.{Bool, true, false}
use Rattle.dtx_values.specs.declared.message.Message.{Message}
use Rattle.dtx_values.specs.declared.message.Message.TheVariants.{BeginBegun, BeginCommitted, BeginAbort, BeginAborted, BeginInDoubt, VoterVoter, VoterCreated, VoterRefused, VoterAbort, VoterInDoubt, VoterAsk, VoterNo, VoterCommit, EnlistEnlisted, EnlistRefused, EnlistAbort, EnlistOneAborted, EnlistOneCommitted, EnlistOneInDoubt, EnlistPrepared, EnlistReadonly, EnlistNo}
use Rattle.dtx_values.specs.declared.words.Vote.{Vote}
use Rattle.dtx_values.specs.declared.words.Vote.TheVariants.{Yes, No, Done}

abbrev pub BEGUN : Message → Bool
BEGUN (BeginBegun u) = true
BEGUN _ = false

abbrev pub COMMITTED : Message → Bool
COMMITTED BeginCommitted = true
COMMITTED _ = false

abbrev pub ABORT : Message → Bool
ABORT BeginAbort = true
ABORT _ = false

-- what the coordinator sends on b of its decision
abbrev pub OUTCOME : Message → Bool
OUTCOME BeginCommitted = true
OUTCOME BeginAborted = true
OUTCOME BeginInDoubt = true
OUTCOME _ = false

abbrev pub VOTER : Message → Bool
VOTER (VoterVoter u) = true
VOTER _ = false

abbrev pub CREATED : Message → Bool
CREATED VoterCreated = true
CREATED _ = false

-- what answers VOTER
abbrev pub VOTER_ANSWER : Message → Bool
VOTER_ANSWER VoterCreated = true
VOTER_ANSWER (VoterRefused c) = true
VOTER_ANSWER VoterAbort = true
VOTER_ANSWER _ = false

abbrev pub ASK : Message → Bool
ASK VoterAsk = true
ASK _ = false

abbrev pub VOTER_NO : Message → Bool
VOTER_NO VoterNo = true
VOTER_NO _ = false

-- what the coordinator sends on v of its decision
abbrev pub VOTER_OUTCOME : Message → Bool
VOTER_OUTCOME VoterCommit = true
VOTER_OUTCOME VoterAbort = true
VOTER_OUTCOME VoterInDoubt = true
VOTER_OUTCOME _ = false

abbrev pub ENLISTED : Message → Bool
ENLISTED EnlistEnlisted = true
ENLISTED _ = false

-- what answers ENLIST
abbrev pub ENLIST_ANSWER : Message → Bool
ENLIST_ANSWER EnlistEnlisted = true
ENLIST_ANSWER (EnlistRefused c) = true
ENLIST_ANSWER EnlistAbort = true
ENLIST_ANSWER _ = false

-- what a durable sends of its vote
abbrev pub VOTE : Vote → Message → Bool
VOTE Yes EnlistPrepared = true
VOTE Done EnlistReadonly = true
VOTE No EnlistNo = true
VOTE _ _ = false

-- what the owner sends of its answer
abbrev pub ONE : Message → Bool
ONE EnlistOneCommitted = true
ONE EnlistOneAborted = true
ONE EnlistOneInDoubt = true
ONE _ = false

abbrev pub NO : Message → Bool
NO EnlistNo = true
NO _ = false
