-- Calls that a world does with the steps before them, a call that needs no log, and the status of a transaction.
use Rattle.std.specs.Prelude.{ℕ, ◌≡◌, ◌≤◌, ◌<◌, ◌&&◌, not, Bool, true, false, Option, Some, None}
use Rattle.dtx_values.specs.declared.call.Call.{Call}
use Rattle.dtx_values.specs.TxIds.{number_of}
use Rattle.dtx_values.specs.declared.call.Call.TheVariants.{Durable, Marshal, Await, Do}
use Rattle.dtx_values.specs.declared.entry.Answer.{Answer}
use Rattle.dtx_values.specs.declared.entry.Answer.TheVariants.{OutcomeIs, StillActive}
use Rattle.dtx_values.specs.declared.note.Note.{Note}
use Rattle.dtx_values.specs.declared.note.Reply.{Reply}
use Rattle.dtx_values.specs.declared.number.ActorNo.{ActorNo}
use Rattle.dtx_values.specs.declared.words.Outcome.{Outcome}
use Rattle.dtx_values.specs.declared.words.Outcome.TheVariants.{Committed, Aborted, InDoubt}
use Rattle.dtx_values.specs.declared.words.Status.{Status}
use Rattle.dtx_values.specs.declared.words.Status.TheVariants.{Active, Committed as IsCommitted, Aborted as IsAborted, InDoubt as IsInDoubt}
use Rattle.dtx_model.specs.Words.{kth}
use Rattle.dtx_model.specs.World.{answer_at}
use Rattle.dtx_model.specs.Steps.{Step, Calls, after, pending}
use Rattle.coordinator_log.specs.State.{LogState}
use Rattle.local_half.specs.Half.{fits_due}
use Rattle.tx_world.specs.State.{TxState, sends_begin}
use Rattle.tx_world.specs.Stepping.{Does, DoesPending, IsKeptAfter, is_to_promote, Settles, Stepped}

-- the status of a transaction that was decided so, or wasn't decided
abbrev pub status_of : Option Outcome → Status
status_of (Some Committed) = IsCommitted
status_of (Some Aborted) = IsAborted
status_of (Some InDoubt) = IsInDoubt
status_of None = Active

-- the answer that says this status
abbrev pub said : Status → Answer
said IsCommitted = OutcomeIs Committed
said IsAborted = OutcomeIs Aborted
said IsInDoubt = OutcomeIs InDoubt
said Active = StillActive

-- the call is a `do`
abbrev pub is_do : Call → Bool
is_do (Do t k n) = true
is_do _ = false

-- the call can be done without the log: it is none of durable and marshal, which may begin a promotion, and no `do`
abbrev pub is_alone : Call → Bool
is_alone (Durable t e r s) = false
is_alone (Marshal t) = false
is_alone (Do t k n) = false
is_alone _ = true

-- which pending step comes before the call: the one that a `do` names, and the first for an `await`
abbrev pub place_of : Call → ℕ
place_of (Do t k n) = k
place_of _ = 1

-- This step was done, whatever the log was: it sent no BEGIN.
pub record DoesAlone (m : Step) (old new : TxState) : Type 0 where
  pub transaction : new.transaction ≡ old.transaction
  pub world : new.world ≡ after (number_of old.transaction) old.world m
  pub silent : sends_begin (number_of old.transaction) old.world m ≡ false
  pub life : new.life ≡ old.life
  pub kept : IsKeptAfter old new m

-- the reply fits the note to which one is due, where one is, and that isn't one to promote
abbrev pub may_reply_alone : Reply → Option Note → Bool
may_reply_alone r o = fits_due r o && not (is_to_promote o)

-- the k-th pending step was done, whatever the log was
abbrev pub DoesKthAlone : ℕ → TxState → TxState → Type 0
DoesKthAlone k old new = DoesPending (λ m. DoesAlone m old new) k old.world

-- The k-th pending step was done m times: at most n times, and fewer only where fewer than k are pending now.
pub record Repeats {D : Type 0} (faults : D → ℕ) (k n m : ℕ) (old : TxState) (from : LogState D) (new : TxState) (to : LogState D) : Type 0 where
  pub stepped : Stepped faults k m old from new to
  pub most : m ≤ n
  pub fewer : m < n → kth (pending new.world) k ≡ None

-- What comes right before a call: a `do` did so many steps; an `await` settled, however many steps that took; before any other call nothing was done. Only a `do` counts.
abbrev pub Prepares : {D : Type 0} → (D → ℕ) → Call → ℕ → TxState → LogState D → TxState → LogState D → Type 0
Prepares faults (Do t k n) m old from new to = Repeats faults k n m old from new to
Prepares faults (Await t) m old from new to = (m ≡ 0) × (count : ℕ) × Settles faults count old from new to
Prepares faults _ m old from new to = (m ≡ 0) × (new ≡ old) × (to ≡ from)

-- The call was done: what comes before it, and then the call, which was answered so. The call itself doesn't touch the log.
pub record DoesCall {D : Type 0} (faults : D → ℕ) (line : ℕ) (actor : ActorNo) (c : Call) (answer : Answer) (old : TxState) (from : LogState D) (new : TxState) (to : LogState D) : Type 0 where
  pub steps : ℕ
  pub before : TxState
  pub prepared : Prepares faults c steps old from before to
  pub entered : Does faults (Calls line actor c steps) before to new to
  pub answered : answer ≡ answer_at (number_of old.transaction) before.world c steps
