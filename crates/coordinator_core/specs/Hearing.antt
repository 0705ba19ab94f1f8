-- Who hears a message, and what is answered to who opens a connection.
use Rattle.std.specs.Prelude.{ℕ, Bool, true, false, List, filter, Option}
use Rattle.dtx_values.specs.declared.message.Message.{Message}
use Rattle.dtx_values.specs.declared.message.Message.TheVariants.{EnlistPrepare, EnlistCommit, EnlistAbort, EnlistSingle}
use Rattle.dtx_values.specs.declared.entry.Entry.{Entry}
use Rattle.dtx_model.specs.declared.desk.Ballot.{Ballot}
use Rattle.dtx_model.specs.declared.desk.Desk.{Desk}
use Rattle.dtx_model.specs.Coordinated.{Coordinated, is_prepared, still_hears, to_each}
use Rattle.coordinator_core.specs.declared.stages.Opening.{Opening}
use Rattle.coordinator_core.specs.declared.stages.Opening.TheVariants.{Accepted, Aborted, TooLate, NoSuch}

-- an enlistment with this vote hears the message: PREPARE and SINGLE each, COMMIT those that said PREPARED, ABORT those that said neither NO nor READONLY
abbrev pub hears : Message → Option Ballot → Bool
hears EnlistPrepare b = true
hears EnlistSingle b = true
hears EnlistCommit b = is_prepared b
hears EnlistAbort b = still_hears b
hears _ b = false

-- the message is sent to each that hears it
abbrev pub told : Coordinated → Message → List Desk → List Entry
told k m ds = to_each k m (filter (λ d. hears m d.ballot) ds)

-- the message that says the answer: that it is accepted, an abort, or a refusal, whose cause is 1 (too late) or 2 (no such transaction)
abbrev pub said : Opening → Message → Message → (ℕ → Message) → Message
said Accepted good abort refused = good
said Aborted good abort refused = abort
said TooLate good abort refused = refused 1
said NoSuch good abort refused = refused 2
