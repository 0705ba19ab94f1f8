-- All or nothing, for a manager and its objects.
use Rattle.std.specs.Prelude.{ℕ, ◌≡◌, ◌⊎◌, ◌≤◌, ◌<◌, Bool, true, List, [], Option, Some, take}
use Rattle.dtx_values.specs.TxIds.{identifier_of_id, number_of}
use Rattle.dtx_values.specs.declared.call.Call.{Call}
use Rattle.dtx_values.specs.declared.entry.Answer.{Answer}
use Rattle.dtx_values.specs.declared.entry.Entry.{Entry}
use Rattle.dtx_values.specs.declared.note.Note.{Note}
use Rattle.dtx_values.specs.declared.note.Reply.{Reply}
use Rattle.dtx_values.specs.declared.number.CloneNo.{CloneNo}
use Rattle.dtx_values.specs.declared.number.EnlNo.{EnlNo}
use Rattle.dtx_values.specs.declared.words.CloneKind.{CloneKind}
use Rattle.coordinator_log.specs.State.{LogState}
use Rattle.dtx_values.specs.declared.tx_id.TxId.{TxId}
use Rattle.dtx_model.specs.Log.{CommitRecord}
use Rattle.dtx_model.specs.Words.{past_of}
use Rattle.dtx_model.specs.World.{World}
use Rattle.record_laws.specs.Recorded.{IsOf, IsVolatile}
use Rattle.recovery_laws.specs.Whole.{Site, is_whole}
use Rattle.resource_managers.specs.Pairs.{enlistment}
use Rattle.resource_managers.specs.declared.enlistment.Enlistment.{Enlistment}
use Rattle.transactions.specs.Calling.{IsCalled}
use Rattle.transactions.specs.Doing.{HeardAt}
use Rattle.transactions.specs.Enlisting.{Clones, Enlists}
use Rattle.transactions.specs.Hearing.{Advances, Given}
use Rattle.transactions.specs.Keeping.{HasRun}
use Rattle.transactions.specs.Logged.{AreInOrder, KeepsCommits, KeepsRecords, MayHold}
use Rattle.transactions.specs.Slots.{AreSame, KeepsRest, Standing, live_at}
use Rattle.transactions.specs.State.{LiveState, blank, past}
use Rattle.transactions.specs.declared.event.Event.{Event}
use Rattle.transactions.specs.declared.kind.Kind.{Kind}
use Rattle.all_or_nothing.specs.Marks.{At, Nowhere, Passing, Place, marks_of}
use Rattle.all_or_nothing.specs.Tying.{IsTied}

-- the entries of a transaction's history that were heard, oldest first
abbrev pub heard_of : LiveState → List Entry
heard_of x = take x.heard (past_of (past x))

-- What objects hold of a transaction is tied to what its enlistments heard, and said or are to say.
abbrev pub IsTiedTo : {O : Type 0} → (O → Enlistment → Place) → (O → Enlistment → Type 0) → (O → List Site → Type 0) → List Given → LiveState → O → Type 0
IsTiedTo place keeps leaves gs x o = IsTied (number_of x.number) (λ e. place o (enlistment x.number e)) (λ e. keeps o (enlistment x.number e)) (leaves o) gs (past x) (heard_of x)

-- An enlistment may be heard there: at the resource of its manager; in passing, where it is volatile; or nowhere.
abbrev pub IsRouted : World → ℕ → Place → Type 0
IsRouted w e (At m) = IsOf w m e
IsRouted w e Passing = IsVolatile w e
IsRouted w e Nowhere = Unit {0}

-- All or nothing: whatever a crash may leave of the log and of all that the objects hold, each transaction is whole, and the log's records are in order; what is held of each transaction that goes on is tied to
-- its history, and each of its enlistments is heard where it may be; nothing is held of a transaction that is still to come, whose number is above the last; and the objects' memory is sound.
pub record IsAllOrNothing {D C O : Type 0} (image : D → List ℕ → Type 0) (place : O → Enlistment → Place) (keeps : O → Enlistment → Type 0) (leaves : O → List Site → Type 0) (sound : O → Type 0) (m : Standing D C) (o : O) : Type 0 where
  pub whole : (rs : List CommitRecord) → MayHold image m.log rs → (ss : List Site) → leaves o ss → (t : TxId) → is_whole rs ss (number_of t) ≡ true
  pub ordered : (rs : List CommitRecord) → MayHold image m.log rs → AreInOrder rs
  pub tied : (t : TxId) (x : LiveState) → live_at t m.lives ≡ Some x → IsTiedTo place keeps leaves [] x o
  pub routed : (t : TxId) (x : LiveState) → live_at t m.lives ≡ Some x → (e : EnlNo) → IsRouted x.tx.world e.value (place o (enlistment t e))
  pub begun : (t : TxId) (x : LiveState) → live_at t m.lives ≡ Some x → number_of t ≤ m.last
  pub new : (t : TxId) → m.last < number_of t → (ss : List Site) → leaves o ss → (j e : ℕ) → marks_of j (number_of t) e ss ≡ []
  pub memory : sound o

-- The objects are as they are to be where these replies are given: what they hold of transaction t is tied to its history with them.
abbrev pub AreReady : {D C O : Type 0} → (O → Enlistment → Place) → (O → Enlistment → Type 0) → (O → List Site → Type 0) → List Given → TxId → Standing D C → O → Type 0
AreReady place keeps leaves gs t m o = (x : LiveState) → live_at t m.lives ≡ Some x → IsTiedTo place keeps leaves gs x o

-- A call of transaction t of which objects hear, with these replies from outside: they heard what came of it, move by move; and what holds of its run before and after it is known.
pub record IsCall {D C O : Type 0} (honest : Bool) (image : D → List ℕ → Type 0) (gives : O → Enlistment → Note → Option Reply → O → Type 0) (given : List Given) (t : TxId) (m n : Standing D C) (o p : O) : Type 0 where
  pub before : LiveState
  pub was : live_at t m.lives ≡ Some before
  pub after : LiveState
  pub now : live_at t n.lives ≡ Some after
  pub run_before : HasRun honest image m.log before
  pub run : HasRun honest image n.log after
  pub heard : HeardAt honest image gives given t m n o p
  pub others : AreSame t m.lives n.lives
  pub last : n.last ≡ m.last

-- A program asked what comes next in transaction t: it went on, and this event was heard, or none; no other's record of the log was touched; and what holds of its run before and after that is known.
pub record IsAsked {D C : Type 0} (honest : Bool) (image : D → List ℕ → Type 0) (e : Option Event) (t : TxId) (m n : Standing D C) : Type 0 where
  pub before : LiveState
  pub was : live_at t m.lives ≡ Some before
  pub after : LiveState
  pub now : live_at t n.lives ≡ Some after
  pub advances : Advances e before after
  pub run_before : HasRun honest image m.log before
  pub run : HasRun honest image n.log after
  pub records : KeepsRecords honest image (identifier_of_id t) m.log n.log
  pub others : AreSame t m.lives n.lives
  pub last : n.last ≡ m.last

-- A call was entered in a transaction, which makes an enlistment, a clone or nothing; or it wasn't, and at most a number was given to an enlistment or to a clone.
abbrev pub IsEntered : {D : Type 0} → (D → ℕ) → LogState D → LiveState → LiveState → Type 0
IsEntered faults log x z =
    ((c : Call) × (line : ℕ) × (answer : Answer) × IsCalled faults log c line answer x z)
    ⊎ (((k : Kind) × (e : EnlNo) × (line : ℕ) × (answer : Answer) × Enlists faults log k e line answer x z)
    ⊎ (((k : CloneKind) × (c : CloneNo) × (answer : Answer) × Clones faults log k c answer x z) ⊎ (z ≡ record x { enlisted = z.enlisted; cloned = z.cloned })))

-- A call of transaction t that only enters: the objects are as they were, and so is the log. The same is known of its run.
pub record IsEntry {D C : Type 0} (honest : Bool) (image : D → List ℕ → Type 0) (faults : D → ℕ) (t : TxId) (m n : Standing D C) : Type 0 where
  pub before : LiveState
  pub was : live_at t m.lives ≡ Some before
  pub after : LiveState
  pub now : live_at t n.lives ≡ Some after
  pub entered : IsEntered faults m.log before after
  pub run_before : HasRun honest image m.log before
  pub run : HasRun honest image n.log after
  pub others : AreSame t m.lives n.lives
  pub rest : KeepsRest m n

-- Transaction t is held by nobody any more, or was taken off: nothing of it changed but what its place is used for.
pub record IsGivenUp {D C : Type 0} (t : TxId) (m n : Standing D C) : Type 0 where
  pub left : (z : LiveState) → live_at t n.lives ≡ Some z → (x : LiveState) × (live_at t m.lives ≡ Some x) × (z ≡ record x { usage = z.usage })
  pub others : AreSame t m.lives n.lives
  pub rest : KeepsRest m n

-- Transaction t was begun: its number is above all that were given before, and is the last one now; it was entered as a blank one; the objects hear no enlistment of it yet; no transaction's record of
-- the log was touched; and what holds of its run is known.
pub record IsBeginning {D C O : Type 0} (honest : Bool) (image : D → List ℕ → Type 0) (faults : D → ℕ) (place : O → Enlistment → Place) (t : TxId) (m n : Standing D C) (o : O) : Type 0 where
  pub time : ℕ
  pub call : Call
  pub line : ℕ
  pub answer : Answer
  pub begun : LiveState
  pub now : live_at t n.lives ≡ Some begun
  pub called : IsCalled faults n.log call line answer (blank t time) begun
  pub run : HasRun honest image n.log begun
  pub above : m.last < number_of t
  pub unheard : (e : EnlNo) → place o (enlistment t e) ≡ Nowhere
  pub last : n.last ≡ number_of t
  pub records : KeepsCommits image m.log n.log
  pub others : AreSame t m.lives n.lives

-- No transaction was begun: those that go on are as they were; the last number is, or is higher; and no transaction's record of the log was touched.
pub record IsNumbering {D C : Type 0} (image : D → List ℕ → Type 0) (m n : Standing D C) : Type 0 where
  pub same : n.lives ≡ m.lives
  pub rises : m.last ≤ n.last
  pub records : KeepsCommits image m.log n.log

-- From now on an enlistment is heard where it was; or it was heard nowhere, and now is where it may be.
abbrev pub IsHeardOn : World → ℕ → Place → Place → Type 0
IsHeardOn w e old new = (new ≡ old) ⊎ ((old ≡ Nowhere) × IsRouted w e new)

-- What a program does to its objects between two calls of a manager. It may say where they hear an enlistment of a transaction that goes on, which they heard nowhere. What they kept of one they keep; a
-- crash leaves nothing that it might not have left before; and their memory is sound.
pub record IsBetween {D C O : Type 0} (place : O → Enlistment → Place) (keeps : O → Enlistment → Type 0) (leaves : O → List Site → Type 0) (sound : O → Type 0) (m : Standing D C) (o p : O) : Type 0 where
  pub places : (t : TxId) (x : LiveState) → live_at t m.lives ≡ Some x → (e : EnlNo) → IsHeardOn x.tx.world e.value (place o (enlistment t e)) (place p (enlistment t e))
  pub kept : (t : TxId) (x : LiveState) → live_at t m.lives ≡ Some x → (e : EnlNo) → keeps o (enlistment t e) → keeps p (enlistment t e)
  pub left : (ss : List Site) → leaves p ss → leaves o ss
  pub memory : sound p
