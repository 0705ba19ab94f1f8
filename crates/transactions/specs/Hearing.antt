-- What the objects of a program hear, and what they reply.
use Rattle.std.specs.Prelude.{ℕ, zero, suc, ◌≡◌, ◌⊎◌, ◌≤◌, ◌||◌, ◌==◌, ◌&&◌, not, Bool, true, false, List, [], ◌∷◌, ◌++◌, Option, Some, None, length}
use Rattle.std.specs.List.{filter_map}
use Rattle.dtx_values.specs.declared.entry.Entry.{Entry}
use Rattle.dtx_values.specs.declared.entry.Entry.TheVariants.{Acked, OwnerAnswered, PromoteReply, Requested, Voted}
use Rattle.dtx_values.specs.declared.entry.Request.{Request}
use Rattle.dtx_values.specs.declared.entry.Request.TheVariants.{Commit as RequestCommit, Abort as RequestAbort}
use Rattle.dtx_values.specs.declared.note.Note.{Note}
use Rattle.dtx_values.specs.declared.note.Reply.{Reply}
use Rattle.dtx_values.specs.declared.note.Reply.TheVariants.{Vote as VoteReply, Promote as Promotes, Owner as OwnerReply, Ack}
use Rattle.dtx_values.specs.declared.number.EnlNo.{EnlNo}
use Rattle.dtx_values.specs.declared.tx_id.TxId.{TxId}
use Rattle.dtx_model.specs.Words.{each, has, onto, same}
use Rattle.dtx_model.specs.declared.waiting.EnteredCall.{EnteredCall}
use Rattle.dtx_model.specs.Entries.{same_outcome}
use Rattle.dtx_model.specs.Half.{is_aborted}
use Rattle.dtx_model.specs.Caused.{same_vote}
use Rattle.transactions.specs.declared.event.Event.{Event}
use Rattle.transactions.specs.declared.event.Next.{Next}
use Rattle.transactions.specs.declared.event.Next.TheVariants.{Found, Nothing, Disk}
use Rattle.transactions.specs.declared.event.Advance.{Advance}
use Rattle.transactions.specs.declared.event.Advance.TheVariants.{Heard, Did, Idle}
use Rattle.resource_managers.specs.declared.enlistment.Enlistment.{Enlistment}
use Rattle.transactions.specs.Events.{event_of, note_in}
use Rattle.transactions.specs.State.{LiveState, past, unheard}

-- a reply that an enlistment gave
abbrev pub Given : Type 0
Given = EnlNo × Reply

-- the entry is a reply of an enlistment
abbrev pub is_reply : Entry → Bool
is_reply (Voted e v) = true
is_reply (PromoteReply e ok) = true
is_reply (OwnerAnswered e o) = true
is_reply (Requested e r) = true
is_reply (Acked e) = true
is_reply _ = false

-- the request that an owner's answer makes: to abort, or else to commit
abbrev pub is_requested : Request → Bool → Bool
is_requested RequestAbort aborts = aborts
is_requested RequestCommit aborts = not aborts

-- the entry says what this reply says
abbrev pub says : Given → Entry → Bool
says (e, VoteReply v) (Voted f w) = (e.value == f.value) && same_vote v w
says (e, Promotes a) (PromoteReply f b) = (e.value == f.value) && same a b
says (e, OwnerReply x) (OwnerAnswered f y) = (e.value == f.value) && same_outcome x y
says (e, OwnerReply x) (Requested f r) = (e.value == f.value) && is_requested r (is_aborted x)
says (e, Ack) (Acked f) = e.value == f.value
says _ _ = false

-- the entry is no reply, or it is one of these
abbrev pub is_one_of : List Given → Entry → Bool
is_one_of rs x = not (is_reply x) || has (λ g. says g x) rs

-- what the entries say to the enlistments and to the client, in order
abbrev pub events : TxId → List Entry → List Event
events t xs = filter_map (event_of t) xs

abbrev pub listed : Option Event → List Event
listed (Some x) = x ∷ []
listed None = []

-- what was heard
abbrev pub heard_in : Advance → Option Event
heard_in (Heard x) = Some x
heard_in Did = None
heard_in Idle = None

-- what was found to come next
abbrev pub found_in : Next → Option Event
found_in (Found x) = Some x
found_in Nothing = None
found_in Disk = None

-- a reply, where there is one
abbrev pub replied : Enlistment → Option Reply → List Given
replied e (Some r) = (e.number, r) ∷ []
replied e None = []

abbrev pub given_of : Option Given → List Given
given_of (Some g) = g ∷ []
given_of None = []

-- The objects hear a note, and may reply; where there is none, nothing is done. Before it they are a, after it b.
abbrev pub HearsNote : {O : Type 0} → (O → Enlistment → Note → Option Reply → O → Type 0) → Option (Enlistment × Note) → O → List Given → O → Type 0
HearsNote gives (Some x) a rs b = (r : Option Reply) × gives a x.0 x.1 r b × (rs ≡ replied x.0 r)
HearsNote gives None a rs b = (rs ≡ []) × (b ≡ a)

-- The objects hear what these events say, in order, and give these replies.
abbrev pub Hears : {O : Type 0} → (O → Enlistment → Note → Option Reply → O → Type 0) → List Event → O → List Given → O → Type 0
Hears gives [] a rs b = (rs ≡ []) × (b ≡ a)
Hears {O} gives (x ∷ xs) a rs b = (m : O) × (ps : List Given) × (qs : List Given) × HearsNote gives (note_in x) a ps m × Hears gives xs m qs b × (rs ≡ ps ++ qs)

-- The history of a transaction went on by these entries, the oldest first, each reply among which is one of those that were given; and these calls were entered, the newest first.
pub record Writes (given : List Given) (old new : LiveState) : Type 0 where
  pub written : List Entry
  pub grown : past new ≡ onto (past old) written
  pub said : each (is_one_of given) written ≡ true
  pub called : List EnteredCall
  pub calls : new.tx.world.calls ≡ called ++ old.tx.world.calls

-- The next entries were heard that nobody had heard, and they say this.
pub record HearsNext (said : List Event) (old new : LiveState) : Type 0 where
  pub heard : List Entry
  pub split : unheard (record old { tx = new.tx }) ≡ heard ++ unheard new
  pub says : events old.number heard ≡ said
  pub onward : old.heard ≤ new.heard

-- What a transaction did next: its history went on with no reply, and this event was heard, or none.
pub record Advances (x : Option Event) (old new : LiveState) : Type 0 where
  pub writes : Writes [] old new
  pub hears : HearsNext (listed x) old new
  pub rest : new ≡ record old { tx = new.tx; heard = new.heard }
  pub within : old.heard ≤ length (past old)
  pub still : new.heard ≤ length (past new)

-- A call was entered, or a reply was given from outside: the history went on, each reply among what was written is one of those that were given, and nobody heard of it.
pub record Takes (given : List Given) (old new : LiveState) : Type 0 where
  pub writes : Writes given old new
  pub heard : new.heard ≡ old.heard
  pub number : new.number ≡ old.number

-- An event came, the objects heard it, and what they replied was written, or wasn't.
pub record Turns {O : Type 0} (gives : O → Enlistment → Note → Option Reply → O → Type 0) (old new : LiveState) (before after : O) : Type 0 where
  pub event : Event
  pub replies : List Given
  pub between : LiveState
  pub comes : Advances (Some event) old between
  pub hears : HearsNote gives (note_in event) before replies after
  pub writes : Writes replies between new
  pub rest : new ≡ record between { tx = new.tx }

-- One move of a transaction and the objects: it goes on by itself, and nobody hears of it; a call or a reply comes from outside; or an event comes, and the objects hear it.
abbrev pub Moves : {O : Type 0} → (O → Enlistment → Note → Option Reply → O → Type 0) → List Given → LiveState → LiveState → O → O → Type 0
Moves gives given old new a b = (Advances None old new × (b ≡ a)) ⊎ ((Takes given old new × (b ≡ a)) ⊎ Turns gives old new a b)

-- so many moves, one after the other
abbrev pub MovesOn : {O : Type 0} → (O → Enlistment → Note → Option Reply → O → Type 0) → List Given → ℕ → LiveState → LiveState → O → O → Type 0
MovesOn gives given zero old new a b = (new ≡ old) × (b ≡ a)
MovesOn {O} gives given (suc n) old new a b = (mid : LiveState) × (m : O) × MovesOn gives given n old mid a m × Moves gives given mid new m b

-- What a call makes of a transaction and the objects: its history went on; the objects heard the next entries that nobody had heard, in order, and nothing else; and each reply
-- that was written is one of theirs, or one that the call itself gave. It came to that move by move.
pub record IsHeard {O : Type 0} (gives : O → Enlistment → Note → Option Reply → O → Type 0) (given : List Given) (old new : LiveState) (before after : O) : Type 0 where
  pub said : List Event
  pub replies : List Given
  pub hears : Hears gives said before replies after
  pub next : HearsNext said old new
  pub writes : Writes (given ++ replies) old new
  pub number : new.number ≡ old.number
  pub count : ℕ
  pub moves : MovesOn gives given count old new before after
