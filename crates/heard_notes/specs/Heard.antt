-- What an object hears of a run, as the run's trace shows it, and what it answered there.
use Rattle.std.specs.Prelude.{◌≡◌, ℕ, Bool, true, false, List, [], ◌∷◌, Option, Some, None, if◌then◌else◌}
use Rattle.dtx_values.specs.declared.entry.Entry.{Entry}
use Rattle.dtx_values.specs.declared.entry.Entry.TheVariants.{Acked, Init as InitEntry, OwnerAnswered, PromoteReply, Requested, Told, Voted}
use Rattle.dtx_values.specs.declared.entry.Party.TheVariants.{Enl}
use Rattle.dtx_values.specs.declared.note.Note.{Note}
use Rattle.dtx_values.specs.declared.note.Note.TheVariants.{Init, Prepare, Promote, Hand, Single, Commit, Rollback, InDoubt}
use Rattle.dtx_values.specs.declared.note.Plan.{Plan}
use Rattle.dtx_values.specs.declared.note.Reply.{Reply}
use Rattle.dtx_values.specs.declared.note.Reply.TheVariants.{Vote as VoteReply, Promote as PromoteOk, Owner, Ack}
use Rattle.dtx_values.specs.declared.number.EnlNo.{EnlNo}
use Rattle.dtx_values.specs.declared.number.TxNo.{TxNo}
use Rattle.dtx_values.specs.declared.script.Line.{Line}
use Rattle.dtx_values.specs.declared.trace.Place.TheVariants.{Transaction}
use Rattle.dtx_values.specs.declared.words.Outcome.TheVariants.{Committed, Aborted, InDoubt as DoubtOutcome}
use Rattle.dtx_model.specs.Caused.{Of, answers, is_volatile_in, plans_of}
use Rattle.dtx_model.specs.Plans.{planned}
use Rattle.dtx_model.specs.Replies.{fits, request_of}
use Rattle.dtx_model.specs.Traces.{Placed}
use Rattle.dtx_model.specs.Words.{all_of}

-- the note that an entry shows an enlistment to have heard: a note that wants a reply at the reply, any other where it is told. A volatile's Commit wants none.
abbrev pub commit_of : Bool → EnlNo → Option (EnlNo × Note)
commit_of true e = Some (e, Commit)
commit_of false e = None

abbrev pub note_shown : (ℕ → Bool) → Entry → Option (EnlNo × Note)
note_shown volatile (InitEntry e) = Some (e, Init)
note_shown volatile (Voted e v) = Some (e, Prepare)
note_shown volatile (PromoteReply e ok) = Some (e, Promote)
note_shown volatile (OwnerAnswered e o) = Some (e, Hand)
note_shown volatile (Requested e r) = Some (e, Single)
note_shown volatile (Acked e) = Some (e, Commit)
note_shown volatile (Told (Enl e) Committed) = commit_of (volatile e.value) e
note_shown volatile (Told (Enl e) Aborted) = Some (e, Rollback)
note_shown volatile (Told (Enl e) DoubtOutcome) = Some (e, InDoubt)
note_shown volatile _ = None

-- a note that was heard: by whom, and the entry that shows it
pub record HeardNote : Type 0 where
  pub transaction : TxNo
  pub enlistment : EnlNo
  pub note : Note
  pub entry : Entry

abbrev pub heard_if : (ℕ → Bool) → TxNo → Entry → Option (EnlNo × Note) → Option HeardNote
heard_if who t x (Some n) = if who n.0.value then Some (record { transaction = t; enlistment = n.0; note = n.1; entry = x }) else None
heard_if who t x None = None

abbrev pub heard_at : List Line → (ℕ → Bool) → Placed → Option HeardNote
heard_at s who (Transaction t, x) = heard_if who t x (note_shown (is_volatile_in s) x)
heard_at s who _ = None

-- Heard: what the enlistments that have the object heard, in order of the trace, which stands newest entry first here
abbrev pub heard : List Line → Of → List Placed → List HeardNote
heard s o T = all_of (heard_at s (answers s o)) T

-- the entry shows this reply
abbrev pub Shows : Entry → Reply → Type 0
Shows (Voted e v) r = r ≡ VoteReply v
Shows (PromoteReply e ok) r = r ≡ PromoteOk ok
Shows (OwnerAnswered e o) r = r ≡ Owner o
Shows (Requested e q) (Owner o) = q ≡ request_of o
Shows (Acked e) r = r ≡ Ack
Shows _ r = ⊥

-- the entry shows a reply
abbrev pub is_reply : Entry → Bool
is_reply (Voted e v) = true
is_reply (PromoteReply e ok) = true
is_reply (OwnerAnswered e o) = true
is_reply (Requested e q) = true
is_reply (Acked e) = true
is_reply _ = false

-- the planned reply, where the plan has one
abbrev pub ShowsPlanned : Entry → Option Reply → Type 0
ShowsPlanned x (Some r) = Shows x r
ShowsPlanned x None = ⊥

-- the answer of an object that counts: none where it doesn't fit the note
abbrev pub counting : Note → Option Reply → Option Reply
counting n (Some r) = if fits r n then Some r else None
counting n None = None

-- what the object answered is what the entry shows; where it gave no answer, or one that doesn't fit, the entry shows the planned one
abbrev pub IsTaken : Plan → HeardNote → Option Reply → Type 0
IsTaken p h (Some r) = Shows h.entry r
IsTaken p h None = ShowsPlanned h.entry (planned p h.note)

-- a note that wants no reply may be answered as the object likes
abbrev pub WhereReply : Bool → Type 0 → Type 0
WhereReply true A = A
WhereReply false A = Unit {0}

abbrev pub IsHeardSo : List Line → HeardNote → Option Reply → Type 0
IsHeardSo s h a = WhereReply (is_reply h.entry) (IsTaken (plans_of s h.enlistment.value) h (counting h.note a))

-- the object is reached from the one before by what it heard, the newest note first
abbrev pub Reaches : {R : Type 0} → (R → TxNo → EnlNo → Note → Option Reply → R → Type 0) → List Line → R → List HeardNote → R → Type 0
Reaches gives s from [] to = to ≡ from
Reaches {R} gives s from (h ∷ hs) to = (before : R) × (a : Option Reply) × Reaches gives s from hs before × gives before h.transaction h.enlistment h.note a to × IsHeardSo s h a

-- the notes without a reply, as entries tell them: a durable's Commit wants one, so it isn't one of these
abbrev pub note_told : Bool → Entry → Option (EnlNo × Note)
note_told volatile (InitEntry e) = Some (e, Init)
note_told volatile (Told (Enl e) Committed) = commit_of volatile e
note_told volatile (Told (Enl e) Aborted) = Some (e, Rollback)
note_told volatile (Told (Enl e) DoubtOutcome) = Some (e, InDoubt)
note_told volatile _ = None
