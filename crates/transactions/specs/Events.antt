-- What the entries of a history say to the enlistments and to the client.
use Rattle.std.specs.Prelude.{Option, Some, None}
use Rattle.dtx_values.specs.declared.entry.Ask.TheVariants.{Prepare as AskPrepare, Promote as AskPromote, Single as AskSingle}
use Rattle.dtx_values.specs.declared.entry.Entry.{Entry}
use Rattle.dtx_values.specs.declared.entry.Entry.TheVariants.{Asked as AskedEntry, Handed, Init as InitEntry, Told as ToldEntry}
use Rattle.dtx_values.specs.declared.entry.Party.TheVariants.{Client, Enl}
use Rattle.dtx_values.specs.declared.note.Note.{Note}
use Rattle.dtx_values.specs.declared.note.Note.TheVariants.{Init, Prepare, Promote, Hand, Single, Commit, Rollback, InDoubt as InDoubtNote}
use Rattle.dtx_values.specs.declared.tx_id.TxId.{TxId}
use Rattle.dtx_values.specs.declared.words.Outcome.{Outcome}
use Rattle.dtx_values.specs.declared.words.Outcome.TheVariants.{Committed, Aborted, InDoubt}
use Rattle.transactions.specs.declared.event.Event.{Event}
use Rattle.transactions.specs.declared.event.Event.TheVariants.{Asked, Told, Done}
use Rattle.resource_managers.specs.Pairs.{enlistment}
use Rattle.resource_managers.specs.declared.enlistment.Enlistment.{Enlistment}

-- the note that tells an enlistment this outcome
abbrev pub note_told : Outcome → Note
note_told Committed = Commit
note_told Aborted = Rollback
note_told InDoubt = InDoubtNote

-- what an entry of the history of transaction t says to an enlistment or to the client: a promotable that it is the first, a question, that it is to own the commit, and the outcome
abbrev pub event_of : TxId → Entry → Option Event
event_of t (InitEntry e) = Some (Asked (enlistment t e) Init)
event_of t (AskedEntry e AskPrepare) = Some (Asked (enlistment t e) Prepare)
event_of t (AskedEntry e AskPromote) = Some (Asked (enlistment t e) Promote)
event_of t (AskedEntry e AskSingle) = Some (Asked (enlistment t e) Single)
event_of t (Handed e) = Some (Asked (enlistment t e) Hand)
event_of t (ToldEntry (Enl e) o) = Some (Told (enlistment t e) o)
event_of t (ToldEntry Client o) = Some (Done o)
event_of t _ = None

-- whom an event concerns, and what that one hears; the client hears no note
abbrev pub note_in : Event → Option (Enlistment × Note)
note_in (Asked e n) = Some (e, n)
note_in (Told e o) = Some (e, note_told o)
note_in (Done o) = None
