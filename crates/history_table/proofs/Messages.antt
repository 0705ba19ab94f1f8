-- The messages by their names, as tests.
use Rattle.std.proofs.Common.{Bool, true, false}
use Rattle.dtx_values.specs.declared.message.Message.{Message}
use Rattle.dtx_values.specs.declared.message.Message.TheVariants.{BeginBegin, BeginCommit, BeginCommitOne, VoterYes, EnlistEnlist, EnlistSingle, EnlistPrepare, EnlistPrepared, EnlistReadonly}

abbrev pub BEGIN : Message → Bool
BEGIN BeginBegin = true
BEGIN _ = false

-- of either name: for two phases, or for a single one
abbrev pub COMMIT : Message → Bool
COMMIT BeginCommit = true
COMMIT BeginCommitOne = true
COMMIT _ = false

abbrev pub COMMIT_TWO : Message → Bool
COMMIT_TWO BeginCommit = true
COMMIT_TWO _ = false

abbrev pub COMMIT_ONE : Message → Bool
COMMIT_ONE BeginCommitOne = true
COMMIT_ONE _ = false

abbrev pub YES : Message → Bool
YES VoterYes = true
YES _ = false

abbrev pub ENLIST : Message → Bool
ENLIST (EnlistEnlist i) = true
ENLIST _ = false

abbrev pub PREPARE : Message → Bool
PREPARE EnlistPrepare = true
PREPARE _ = false

abbrev pub SINGLE : Message → Bool
SINGLE EnlistSingle = true
SINGLE _ = false

-- what a durable sends of a good vote
abbrev pub VOTED : Message → Bool
VOTED EnlistPrepared = true
VOTED EnlistReadonly = true
VOTED _ = false
